use Rattle.std.proofs.Common.{◌≡◌, ◌∙◌, IfOk, [], ◌∷◌, ap, subst}
use Rattle.oxc_plan.specs.Marks.{marks_at}
use Rattle.oxc_plan.specs.Rows.{row_view}
use Rattle.oxc_plan.proofs.AloneLemmas.{one_mark}
use Rattle.oxc_plan.proofs.marks.placed_alone.Goals as goal

pub returns-in-Some-clause-exact : goal.returns-in-Some-clause-exact
returns-in-Some-clause-exact c =
    let row = row_view c.args.row.now in
    let one : c.mark_after.result ∷ [] ≡ marks_at c.args.tabs row c.args.spans.now (c.args.at ∷ []) =
    ap (λ mark. mark ∷ []) c.mark_after.ensures ∙ one_mark c.args.tabs row c.args.spans.now c.args.at c.in-Some.cells c.in-Some.ensures.exact in
    subst (λ l. IfOk c.from_slice.result (λ marks. marks.items ≡ l)) one c.from_slice.ensures.items
