use Rattle.std.proofs.Common.{◌≡◌, ◌+◌, drop, map}
use Rattle.std.specs.List.{prefix_len}
use Rattle.line_reports.specs.Fixes.{is_of, suggested_parts}
use Rattle.line_reports.proofs.fixes.hunk_rest.Given as goal

abbrev pub invariant-loop-k : goal.invariant-loop-k
invariant-loop-k l = l.k + prefix_len (is_of l.gap) (map suggested_parts (drop l.k l.rows)) ≡ prefix_len (is_of l.gap) (map suggested_parts l.rows)
