use Rattle.std.proofs.Common.{◌≡◌, length, map}
use Rattle.line_shapes.specs.Shape.{first_own as own_among, shape_parts}
use Rattle.line_shapes.proofs.shape.first_own.Given as goal

abbrev pub invariant-loop-shapes : goal.invariant-loop-shapes
invariant-loop-shapes l = own_among (map shape_parts l.shapes) l.line ≡ own_among (map shape_parts l.initial.shapes) l.line

abbrev pub decreases-loop-shapes : goal.decreases-loop-shapes
decreases-loop-shapes l = length l.shapes
