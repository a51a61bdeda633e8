use Rattle.std.proofs.Common.{◌≡◌, ◌++◌, length, map}
use Rattle.line_shapes.specs.Shape.{shape_parts}
use Rattle.fed_lines.specs.Held.{held_lines, held_name, held_shapes}
use Rattle.fed_lines.specs.Feed.{IsFed, IsNoneKnown}
use Rattle.fed_lines.proofs.whole.fed.Given as goal

abbrev pub invariant-loop-lines : goal.invariant-loop-lines
invariant-loop-lines l =
    (held_shapes l.held ≡ map shape_parts l.shapes) × IsFed (map shape_parts l.shapes) (map (λ line. line.now) l.initial.lines) l.cuts.items (held_name l.held) (held_lines l.held ++ map (λ line. line.now) l.lines)
    × IsNoneKnown (map shape_parts l.shapes) (held_name l.held) (held_lines l.held)

abbrev pub decreases-loop-lines : goal.decreases-loop-lines
decreases-loop-lines l = length l.lines
