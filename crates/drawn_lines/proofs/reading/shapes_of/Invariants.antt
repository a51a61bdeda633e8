-- The shapes before are there, and the others come next: first the user's own, then those of the tool.
use Rattle.std.proofs.Common.{◌≡◌, ◌++◌, drop, map}
use Rattle.line_shapes.specs.Shape.{shape_parts}
use Rattle.drawn_lines.specs.Lines.{own_parts}
use Rattle.drawn_lines.proofs.reading.shapes_of.Given as goal

abbrev pub invariant-loop-own : goal.invariant-loop-own
invariant-loop-own l =
    map shape_parts l.shapes.items ++ map own_parts (drop l.own-index l.asked.shapes.items) ≡ map own_parts l.asked.shapes.items

abbrev pub invariant-loop-shape : goal.invariant-loop-shape
invariant-loop-shape l =
    map shape_parts l.shapes.items ++ map shape_parts (drop l.shape-index l.shape-items) ≡ map shape_parts l.initial.shapes.items ++ map shape_parts l.shape-items
