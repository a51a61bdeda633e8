use Rattle.std.proofs.Common.{◌≡◌, ◌-◌, ◌≤◌, length}
use Rattle.std.specs.List.{range_with_len}
use Rattle.line_shapes.specs.Part.{seen}
use Rattle.line_shapes.specs.Place.{first_some}
use Rattle.line_shapes.specs.Shape.{own_at as own_place_at}
use Rattle.line_shapes.proofs.shape.named_behind.Given as goal

abbrev pub invariant-loop-at : goal.invariant-loop-at
invariant-loop-at l =
    (1 ≤ l.at) × (first_some (own_place_at l.kind l.after (seen l.begun)) (range_with_len l.at (length l.begun.rest.now - l.at)) ≡ first_some (own_place_at l.kind l.after (seen l.begun)) (range_with_len 1 (length l.begun.rest.now - 1)))

abbrev pub decreases-loop-at : goal.decreases-loop-at
decreases-loop-at l = length l.begun.rest.now - l.at
