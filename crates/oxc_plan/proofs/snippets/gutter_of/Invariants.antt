use Rattle.std.proofs.Common.{◌≡◌, map, take, max, length, fold}
use Rattle.oxc_plan.specs.Plan.{row_plan_view}
use Rattle.oxc_plan.proofs.snippets.gutter_of.Given as goal

abbrev pub invariant-loop-row : goal.invariant-loop-row
invariant-loop-row l = l.most ≡ fold (λ most row. max most (length row.bars)) 0 (map row_plan_view (take l.row-index l.rows))
