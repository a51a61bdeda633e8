use Rattle.std.proofs.Common.{◌≡◌, ◌+◌, ◌≤◌, take, length}
use Rattle.std.specs.List.{suffix_len}
use Rattle.excerpt_rows.specs.Hunk.{is_context}
use Rattle.excerpt_rows.proofs.hunk.context_after.Given as goal

abbrev pub invariant-loop-end : goal.invariant-loop-end
invariant-loop-end l = record {
  within : l.end ≤ length l.rows;
  value : l.end + suffix_len is_context l.rows ≡ length l.rows + suffix_len is_context (take l.end l.rows);
}

abbrev pub decreases-loop-end : goal.decreases-loop-end
decreases-loop-end l = l.end
