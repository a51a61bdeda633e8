use Rattle.std.proofs.Common.{◌≡◌, ◌+◌, ◌≤◌, length, map}
use Rattle.tool_lines.specs.Lines.{announced_len as announced_length}
use Rattle.fed_lines.proofs.ends.announced_len.Given as goal

abbrev pub invariant-loop-lines : goal.invariant-loop-lines
invariant-loop-lines l = (l.count + length l.lines ≤ length l.initial.lines) × (l.count + announced_length (map (λ line. line.items) l.lines) ≡ announced_length (map (λ line. line.items) l.initial.lines))

abbrev pub decreases-loop-lines : goal.decreases-loop-lines
decreases-loop-lines l = length l.lines
