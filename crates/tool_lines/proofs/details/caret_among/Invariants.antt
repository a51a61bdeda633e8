use Rattle.std.proofs.Common.{◌≡◌, length, map}
use Rattle.tool_lines.specs.Details.{caret_from}
use Rattle.tool_lines.proofs.details.caret_among.Given as goal

abbrev pub invariant-loop-lines : goal.invariant-loop-lines
invariant-loop-lines l = caret_from (map (λ line. line.now) l.lines) ≡ caret_from (map (λ line. line.now) l.initial.lines)

abbrev pub decreases-loop-lines : goal.decreases-loop-lines
decreases-loop-lines l = length l.lines
