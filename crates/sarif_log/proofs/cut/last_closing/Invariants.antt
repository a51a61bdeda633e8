-- No brace closes from there on.
use Rattle.std.proofs.Common.{◌≢◌, ℕ, ◌≤◌, length, slice_index}
use Rattle.sarif_log.proofs.cut.last_closing.Given as goal

abbrev pub invariant-loop-end : goal.invariant-loop-end
invariant-loop-end l = record { within : l.end ≤ length l.bytes; none : (k : ℕ) → l.end ≤ k → slice_index l.bytes k ≢ 0x7D }

abbrev pub decreases-loop-end : goal.decreases-loop-end
decreases-loop-end l = l.end
