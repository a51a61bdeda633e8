use Rattle.std.proofs.Common.{◌≡◌, ◌++◌, map, length}
use Rattle.line_reports.proofs.pieces.lent.Given as goal

abbrev pub invariant-loop-lines : goal.invariant-loop-lines
invariant-loop-lines l = map (λ line. line.now) l.all.items ++ map (λ line. line.items) l.lines ≡ map (λ line. line.items) l.initial.lines

abbrev pub decreases-loop-lines : goal.decreases-loop-lines
decreases-loop-lines l = length l.lines
