-- No brace stands before.
use Rattle.std.proofs.Common.{◌≡◌, ℕ, ◌<◌, false, slice_index}
use Rattle.sarif.specs.Fill.{is_brace}
use Rattle.sarif.proofs.fill.plain_len.Given as goal

abbrev pub invariant-loop-at : goal.invariant-loop-at
invariant-loop-at l = (k : ℕ) → k < l.at → is_brace (slice_index l.bytes k) ≡ false
