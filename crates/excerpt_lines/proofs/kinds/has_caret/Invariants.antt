use Rattle.std.proofs.Common.{◌≡◌, ℕ, ◌<◌, false, slice_index}
use Rattle.excerpt_lines.specs.declared.tables.CharClass.TheVariants.{Caret}
use Rattle.excerpt_lines.specs.Tables.{is_in}
use Rattle.excerpt_lines.proofs.kinds.has_caret.Given as goal

abbrev pub invariant-loop-c : goal.invariant-loop-c
invariant-loop-c l = (k : ℕ) → k < l.c-index → is_in Caret (slice_index l.line k) ≡ false
