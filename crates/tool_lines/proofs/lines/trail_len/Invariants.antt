use Rattle.std.proofs.Common.{◌≡◌, ◌+◌, ◌≤◌, length, map}
use Rattle.line_shapes.specs.Shape.{shape_parts}
use Rattle.tool_lines.specs.Lines.{trail_len as trail_length}
use Rattle.tool_lines.proofs.lines.trail_len.Given as goal

abbrev pub invariant-loop-lines : goal.invariant-loop-lines
invariant-loop-lines l = (l.count + length l.lines ≤ length l.initial.lines) × (l.count + trail_length (map shape_parts l.shapes) l.apart (map (λ line. line.now) l.lines) ≡ trail_length (map shape_parts l.shapes) l.apart (map (λ line. line.now) l.initial.lines))

abbrev pub decreases-loop-lines : goal.decreases-loop-lines
decreases-loop-lines l = length l.lines
