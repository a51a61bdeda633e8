-- The lines before are lent, and the others come next.
use Rattle.std.proofs.Common.{◌≡◌, ◌++◌, drop, map}
use Rattle.drawn_lines.proofs.held.lent.Given as goal

abbrev pub invariant-loop-line : goal.invariant-loop-line
invariant-loop-line l = map (λ line. line.now) l.lent.items ++ map (λ line. line.items) (drop l.line-index l.lines) ≡ map (λ line. line.items) l.lines
