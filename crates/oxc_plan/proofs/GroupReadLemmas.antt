-- What was read of a group.
use Rattle.std.proofs.Common.{◌≡◌, ℕ, ◌+◌, ◌∙◌, List, length, ap}
use Rattle.oxc_span.specs.declared.span.Span.{Span}
use Rattle.oxc_windows.specs.Breaks.{breaks_of}
use Rattle.oxc_plan.specs.declared.grouping.GroupRead.{GroupRead}
use Rattle.oxc_plan.specs.GroupRead.{IsReadTogether}
use Rattle.oxc_plan.specs.Groups.{reach}
use Rattle.oxc_plan.proofs.PlanLemmas.{window_read}

-- how far its window reaches for the next span
pub reach_read : (source : List ℕ) (spans : List Span) (group : GroupRead) → IsReadTogether source spans group
    → group.contents.line + group.contents.line_count ≡ reach (length source) (breaks_of source) spans group.places.start group.places.end
reach_read source spans group is =
    ap (λ v. v.line + v.line_count) is.contents
    ∙ ap (λ w. w.line + w.line_count) (window_read source spans group.places group.span is.start is.end)
