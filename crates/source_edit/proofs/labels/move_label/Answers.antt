use Rattle.std.proofs.Common.{◌≡◌, max, refl, subst, sym, ap, ◌∙◌, arith}
use Rattle.std.specs.Str.{IsCharBoundary}
use Rattle.std.proofs.lemmas.Str.{IsUtf8-string_bytes}
use Rattle.oxc_span.specs.Label.{label_end}
use Rattle.oxc_span.specs.declared.span.Span.{Span}
use Rattle.source_edit.specs.Edits.{change_of, edited}
use Rattle.source_edit.specs.Labels.{moved_start, moved_end}
use Rattle.source_edit.proofs.LabelsLemmas.{moved_start_boundary, moved_end_boundary, later_boundary, before_covers, behind_covers}
use Rattle.source_edit.proofs.labels.move_label.Goals as goal

pub returns-clause-boundaries : goal.returns-clause-boundaries
returns-clause-boundaries c text ok first last =
    let change = change_of c.args.edit.now in
    let le = c.new_start-start.ensures.ordered in
    let utf8 = IsUtf8-string_bytes c.args.edit.now.insert in
    let at = moved_start_boundary text change c.args.label.now.offset le ok utf8 first in
    let till = moved_end_boundary text change (label_end c.args.label.now) le ok utf8 last in
    let start : c.new.result.start ≡ moved_start change c.args.label.now.offset =
    ap (λ (span : Span). span.start) c.new.ensures ∙ c.new_start-start.ensures.moved ∙ ap (λ (span : Span). moved_start change span.start) c.span-span.ensures.value in
    let end : c.new.result.end ≡ max (moved_start change c.args.label.now.offset) (moved_end change (label_end c.args.label.now)) =
    ap (λ (span : Span). span.end) c.new.ensures ∙ c.max.ensures ∙ rw (c.new_start-start.ensures.moved, c.new_end-end.ensures, c.span-span.ensures.value) refl in
    (subst (IsCharBoundary (edited text change)) (sym start) at, subst (IsCharBoundary (edited text change)) (sym end) (later_boundary (edited text change) _ _ at till))

pub returns-clause-before : goal.returns-clause-before
returns-clause-before c text ok before =
    let change = change_of c.args.edit.now in
    let same = before_covers text change c.args.label.now.offset (label_end c.args.label.now) c.new_start-start.ensures.ordered ok.within (omega arith) before in
    rw (c.new.ensures, c.max.ensures, c.new_start-start.ensures.moved, c.new_end-end.ensures, c.span-span.ensures.value) same

pub returns-clause-behind : goal.returns-clause-behind
returns-clause-behind c text ok behind =
    let change = change_of c.args.edit.now in
    let same = behind_covers text change c.args.label.now.offset (label_end c.args.label.now) c.new_start-start.ensures.ordered ok.within (omega arith) behind in
    rw (c.new.ensures, c.max.ensures, c.new_start-start.ensures.moved, c.new_end-end.ensures, c.span-span.ensures.value) same
