use Rattle.std.proofs.Common.{◌≤◌, ◌<◌, length}
use Rattle.report_arrays.proofs.bytes.part_end.Given as goal

abbrev pub invariant-loop-end : goal.invariant-loop-end
invariant-loop-end l = (l.start ≤ l.end) × (l.end < length l.bytes)

abbrev pub decreases-loop-end : goal.decreases-loop-end
decreases-loop-end l = l.end
