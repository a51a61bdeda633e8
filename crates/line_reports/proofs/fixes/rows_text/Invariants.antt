use Rattle.std.proofs.Common.{◌≡◌, ◌++◌, map, length, string_bytes}
use Rattle.line_reports.specs.Fixes.{rows_text}
use Rattle.line_reports.proofs.fixes.rows_text.Given as goal

abbrev pub invariant-loop-rows : goal.invariant-loop-rows
invariant-loop-rows l = string_bytes l.text ++ rows_text (map (λ row. row.now) l.rows) ≡ rows_text (map (λ row. row.now) l.initial.rows)

abbrev pub decreases-loop-rows : goal.decreases-loop-rows
decreases-loop-rows l = length l.rows
