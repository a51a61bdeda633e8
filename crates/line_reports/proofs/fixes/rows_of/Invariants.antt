use Rattle.std.proofs.Common.{◌≡◌, ◌++◌, map, length}
use Rattle.line_reports.specs.Fixes.{suggested_parts, suggested_rows}
use Rattle.line_reports.proofs.fixes.rows_of.Given as goal

abbrev pub invariant-loop-rows : goal.invariant-loop-rows
invariant-loop-rows l = let lines = map (λ line. line.now) l.lines in
    map suggested_parts l.all.items ++ suggested_rows l.source.text.now lines l.marks (length l.all.items) l.rows ≡ suggested_rows l.source.text.now lines l.marks 0 l.initial.rows

abbrev pub decreases-loop-rows : goal.decreases-loop-rows
decreases-loop-rows l = length l.rows
