-- The pieces before are there, and the others come next.
use Rattle.std.proofs.Common.{◌≡◌, ◌++◌, length, map}
use Rattle.tool_lines.specs.Lines.{piece_parts}
use Rattle.drawn_lines.specs.Parting.{unparted}
use Rattle.drawn_lines.proofs.parting.unparted.Given as goal

abbrev pub invariant-loop-rest : goal.invariant-loop-rest
invariant-loop-rest l =
    map piece_parts l.all.items ++ unparted (map (λ line. line.now) l.left) (map piece_parts l.rest)
    ≡ unparted (map (λ line. line.now) l.lines) (map piece_parts l.initial.rest)

abbrev pub decreases-loop-rest : goal.decreases-loop-rest
decreases-loop-rest l = length l.rest
