use Rattle.std.proofs.Common.{ℕ, ◌<◌, ◌≤◌, get_or}
use Rattle.oxc_plan.proofs.columns.is_printable.Given as goal

-- the bytes so far take a column each
abbrev pub invariant-loop-byte : goal.invariant-loop-byte
invariant-loop-byte l = (k d : ℕ) → k < l.byte-index → (0x20 ≤ get_or l.bytes k d) × (get_or l.bytes k d ≤ 0x7E)
