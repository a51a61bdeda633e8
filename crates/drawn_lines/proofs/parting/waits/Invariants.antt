-- The pieces that are left decide.
use Rattle.std.proofs.Common.{◌≡◌, false, length, map}
use Rattle.tool_lines.specs.Lines.{piece_parts}
use Rattle.drawn_lines.specs.Parting.{waits}
use Rattle.drawn_lines.proofs.parting.waits.Given as goal

abbrev pub invariant-loop-rest : goal.invariant-loop-rest
invariant-loop-rest l =
    waits l.last (map (λ line. line.now) l.left) (map piece_parts l.rest) ≡ waits false (map (λ line. line.now) l.lines) (map piece_parts l.initial.rest)

abbrev pub decreases-loop-rest : goal.decreases-loop-rest
decreases-loop-rest l = length l.rest
