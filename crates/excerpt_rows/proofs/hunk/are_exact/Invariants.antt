use Rattle.std.proofs.Common.{◌≡◌, ℕ, ◌<◌, Some, slice_get}
use Rattle.excerpt_rows.specs.declared.hunk.HunkRow.{HunkRow}
use Rattle.excerpt_rows.specs.Hunk.{IsExact}
use Rattle.excerpt_rows.proofs.hunk.are_exact.Given as goal

abbrev pub invariant-loop-row : goal.invariant-loop-row
invariant-loop-row l = (k : ℕ) (row : HunkRow) → k < l.row-index → slice_get l.rows k ≡ Some row → IsExact row
