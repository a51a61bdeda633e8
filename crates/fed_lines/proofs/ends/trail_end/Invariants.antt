use Rattle.std.proofs.Common.{◌≡◌, ◌+◌, ◌≤◌, length, map}
use Rattle.line_shapes.specs.Shape.{shape_parts}
use Rattle.fed_lines.specs.Feed.{trail_end as trail_ends}
use Rattle.fed_lines.proofs.ends.trail_end.Given as goal

abbrev pub invariant-loop-lines : goal.invariant-loop-lines
invariant-loop-lines l = (l.count + length l.lines ≤ length l.initial.lines) × (trail_ends (map shape_parts l.shapes) l.apart l.count (map (λ line. line.items) l.lines) ≡ trail_ends (map shape_parts l.shapes) l.apart 0 (map (λ line. line.items) l.initial.lines))

abbrev pub decreases-loop-lines : goal.decreases-loop-lines
decreases-loop-lines l = length l.lines
