use Rattle.std.proofs.Common.{◌≡◌, ◌++◌, replicate}
use Rattle.drawn_lines.proofs.again.push_times.Given as goal

-- the values that are left come next
abbrev pub invariant-loop-left : goal.invariant-loop-left
invariant-loop-left l = l.flags.items ++ replicate l.left l.value ≡ l.initial.flags.items ++ replicate l.count l.value

abbrev pub decreases-loop-left : goal.decreases-loop-left
decreases-loop-left l = l.left
