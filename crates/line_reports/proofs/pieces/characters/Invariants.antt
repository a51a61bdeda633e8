use Rattle.std.proofs.Common.{◌≡◌, ◌++◌, map, length}
use Rattle.line_reports.specs.Pieces.{line_chars}
use Rattle.line_reports.proofs.pieces.characters.Given as goal

abbrev pub invariant-loop-lines : goal.invariant-loop-lines
invariant-loop-lines l = map (λ line. line.items) l.all.items ++ map line_chars (map (λ line. line.now) l.lines) ≡ map line_chars (map (λ line. line.now) l.initial.lines)

abbrev pub decreases-loop-lines : goal.decreases-loop-lines
decreases-loop-lines l = length l.lines
