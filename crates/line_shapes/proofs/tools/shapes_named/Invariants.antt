use Rattle.std.proofs.Common.{◌≡◌, ◌++◌, length, map}
use Rattle.line_shapes.specs.Shape.{shape_parts}
use Rattle.line_shapes.specs.Tools.{shapes_among, tool_row}
use Rattle.line_shapes.proofs.tools.shapes_named.Given as goal

abbrev pub invariant-loop-rows : goal.invariant-loop-rows
invariant-loop-rows l = map shape_parts l.shapes.items ++ shapes_among (map tool_row l.rows) l.name ≡ shapes_among (map tool_row l.initial.rows) l.name

abbrev pub decreases-loop-rows : goal.decreases-loop-rows
decreases-loop-rows l = length l.rows
