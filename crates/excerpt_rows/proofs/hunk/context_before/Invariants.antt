use Rattle.std.proofs.Common.{◌≡◌, ◌+◌, drop}
use Rattle.std.specs.List.{prefix_len}
use Rattle.excerpt_rows.specs.Hunk.{is_context}
use Rattle.excerpt_rows.proofs.hunk.context_before.Given as goal

abbrev pub invariant-loop-k : goal.invariant-loop-k
invariant-loop-k l = l.k + prefix_len is_context (drop l.k l.rows) ≡ prefix_len is_context l.rows
