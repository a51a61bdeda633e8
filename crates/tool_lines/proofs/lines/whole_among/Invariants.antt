use Rattle.std.proofs.Common.{◌≡◌, length, map}
use Rattle.line_shapes.specs.Part.{seen}
use Rattle.tool_lines.specs.Lines.{whole_among as whole_in}
use Rattle.tool_lines.proofs.lines.whole_among.Given as goal

abbrev pub invariant-loop-shapes : goal.invariant-loop-shapes
invariant-loop-shapes l = whole_in (map (λ shape. shape.1.now) l.shapes) (seen l.found) ≡ whole_in (map (λ shape. shape.1.now) l.initial.shapes) (seen l.found)

abbrev pub decreases-loop-shapes : goal.decreases-loop-shapes
decreases-loop-shapes l = length l.shapes
