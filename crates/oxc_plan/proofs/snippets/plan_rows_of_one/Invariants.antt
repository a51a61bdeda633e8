use Rattle.std.proofs.Common.{◌≡◌, ◌++◌, length, map}
use Rattle.oxc_plan.specs.Plan.{ordered_view, row_plan_of, row_plan_view}
use Rattle.oxc_plan.specs.Rows.{rows_from, rows_of}
use Rattle.oxc_plan.specs.Sweep.{MeetNoOthers}
use Rattle.oxc_plan.proofs.snippets.plan_rows_of_one.Given as goal

-- the rows that are cut off have their plans, and no other label meets those ahead
abbrev pub invariant-loop-row : goal.invariant-loop-row
invariant-loop-row l = record {
  plans : map row_plan_view l.plans.items ++ map (row_plan_of l.tabs (map ordered_view l.labels)) (rows_from l.ahead.above l.ahead.offset l.ahead.text.now)
      ≡ map (row_plan_of l.tabs (map ordered_view l.labels)) (rows_of l.contents);
  alone : MeetNoOthers l.spans l.group (rows_from l.ahead.above l.ahead.offset l.ahead.text.now);
}

abbrev pub decreases-loop-row : goal.decreases-loop-row
decreases-loop-row l = length l.ahead.text.now
