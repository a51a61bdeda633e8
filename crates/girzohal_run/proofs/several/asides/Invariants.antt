-- The rest of the inputs before is appended, and that of the others comes next.
use Rattle.std.proofs.Common.{◌≡◌, map, length}
use Rattle.std.specs.List.{fold}
use Rattle.girzohal_run.specs.Filtering.{with_line}
use Rattle.girzohal_run.specs.Joined.{aside_in, finds_parts}
use Rattle.girzohal_run.proofs.several.asides.Given as goal

abbrev pub invariant-loop-finds : goal.invariant-loop-finds
invariant-loop-finds l = fold with_line l.text.items (map (λ it. it.aside) (map finds_parts l.finds)) ≡ aside_in (map finds_parts l.initial.finds)

abbrev pub decreases-loop-finds : goal.decreases-loop-finds
decreases-loop-finds l = length l.finds
