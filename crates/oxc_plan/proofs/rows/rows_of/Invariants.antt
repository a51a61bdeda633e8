use Rattle.std.proofs.Common.{◌≡◌, ◌++◌, length, map}
use Rattle.oxc_plan.specs.Rows.{row_view, rows_from, rows_of}
use Rattle.oxc_plan.proofs.rows.rows_of.Given as goal

abbrev pub invariant-loop-row : goal.invariant-loop-row
invariant-loop-row l = map row_view l.rows.items ++ rows_from l.ahead.above l.ahead.offset l.ahead.text.now ≡ rows_of l.contents

abbrev pub decreases-loop-row : goal.decreases-loop-row
decreases-loop-row l = length l.ahead.text.now
