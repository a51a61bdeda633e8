-- A row that is too long isn't drawn.
use Rattle.std.proofs.Common.{◌≡◌, ◌++◌, ◌∙◌, OnOk, string_bytes, refl, subst, sym}
use Rattle.oxc_handlers.specs.Report.{report_of, view_parts}
use Rattle.report_texts.proofs.LongLemmas.{fitted_long, fitted_short, shortened}
use Rattle.report_texts.proofs.look.Look.push.Goals as goal

pub returns-in_ok-note-in-Some-2-clause-text : goal.returns-in_ok-note-in-Some-2-clause-text
returns-in_ok-note-in-Some-2-clause-text c =
    let parts = view_parts c.args.view.now in
    subst (λ p. OnOk c.push_view_with_scanner-in-Some-2.result (string_bytes c.push_view_with_scanner-in-Some-2.new.out ≡ string_bytes c.args.out.now ++ report_of c.args.self.now.handler p))
    (shortened c.args.name.now c.args.source.now parts _ c.in-Some.most c.in-Some-2.row c.as_str.result.now refl (c.as_str.ensures.value ∙ c.in_ok-note-in-Some-2.ensures)
    ∙ sym (fitted_long c.args.self.now.max_row c.in-Some.most c.args.name.now c.args.source.now parts c.in-Some-2.row
    (sym c.in-Some.is) (sym c.in-Some-2.is ∙ c.in_ok-row.ensures.row)))
    c.push_view_with_scanner-in-Some-2.ensures.text

pub returns-in-None-clause-text : goal.returns-in-None-clause-text
returns-in-None-clause-text c =
    subst (λ p. OnOk c.push_view_with_scanner-in-None.result (string_bytes c.push_view_with_scanner-in-None.new.out ≡ string_bytes c.args.out.now ++ report_of c.args.self.now.handler p))
    (sym (fitted_short c.args.self.now.max_row c.in-Some.most c.args.name.now c.args.source.now (view_parts c.args.view.now)
    (sym c.in-Some.is) (sym c.in-None.is ∙ c.in_ok-row.ensures.row)))
    c.push_view_with_scanner-in-None.ensures.text
