use Rattle.std.proofs.Common.{◌≡◌, ◌+◌, ◌-◌, ◌≤◌, length}
use Rattle.std.specs.List.{range_with_len}
use Rattle.line_shapes.specs.Part.{seen}
use Rattle.line_shapes.specs.Place.{first_some, placed_at}
use Rattle.line_shapes.proofs.place.in_text.Given as goal

abbrev pub invariant-loop-end : goal.invariant-loop-end
invariant-loop-end l =
    (1 ≤ l.at) × (l.at ≤ length l.text + 1) × (first_some (placed_at l.kind (seen l.begun)) (range_with_len l.at (length l.text - l.at)) ≡ first_some (placed_at l.kind (seen l.begun)) (range_with_len 1 (length l.text - 1)))

abbrev pub decreases-loop-end : goal.decreases-loop-end
decreases-loop-end l = length l.text + 1 - l.at
