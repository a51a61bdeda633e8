use Rattle.std.proofs.Common.{◌≡◌, ◌+◌, ◌≤◌, length, map}
use Rattle.fed_lines.specs.Feed.{announced_end as announced_ends}
use Rattle.fed_lines.proofs.ends.announced_end.Given as goal

abbrev pub invariant-loop-lines : goal.invariant-loop-lines
invariant-loop-lines l = (l.count + length l.lines ≤ 1 + length l.initial.lines) × (announced_ends l.count (map (λ line. line.items) l.lines) ≡ announced_ends 1 (map (λ line. line.items) l.initial.lines))

abbrev pub decreases-loop-lines : goal.decreases-loop-lines
decreases-loop-lines l = length l.lines
