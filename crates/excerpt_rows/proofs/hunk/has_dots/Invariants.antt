use Rattle.std.proofs.Common.{◌≡◌, ℕ, ◌-◌, ◌<◌, ◌≤◌, slice_index}
use Rattle.excerpt_rows.proofs.hunk.has_dots.Given as goal

abbrev pub invariant-loop-k : goal.invariant-loop-k
invariant-loop-k l = (k : ℕ) → 2 ≤ k → k < l.k → slice_index l.text k ≡ 0x2E → slice_index l.text (k - 1) ≡ 0x2E → slice_index l.text (k - 2) ≡ 0x2E → ⊥
