use Rattle.std.proofs.Common.{◌≡◌, ◌++◌, map, length}
use Rattle.excerpt_rows.specs.Edits.{row_view}
use Rattle.line_reports.specs.Fixes.{suggested_parts}
use Rattle.line_reports.proofs.fixes.hunk_rows.Given as goal

abbrev pub invariant-loop-hunk : goal.invariant-loop-hunk
invariant-loop-hunk l = map row_view l.all.items ++ map (λ it. it.row) (map suggested_parts l.hunk) ≡ map (λ it. it.row) (map suggested_parts l.initial.hunk)

abbrev pub decreases-loop-hunk : goal.decreases-loop-hunk
decreases-loop-hunk l = length l.hunk
