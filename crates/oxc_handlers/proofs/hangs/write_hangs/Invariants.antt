use Rattle.std.proofs.Common.{◌≡◌, ◌≤◌, ◌++◌, string_bytes, take, reverse, length}
use Rattle.std.specs.List.{flat_map}
use Rattle.oxc_plan.specs.Plan.{row_plan_view}
use Rattle.oxc_handlers.specs.RowLines.{hang_lines}
use Rattle.oxc_handlers.proofs.hangs.write_hangs.Given as goal

abbrev pub invariant-loop-left : goal.invariant-loop-left
invariant-loop-left l = record {
  left : l.left ≤ length l.hangs;
  ahead : string_bytes l.out ++ flat_map (hang_lines l.setting (row_plan_view l.row)) (reverse (take l.left l.hangs))
      ≡ string_bytes l.initial.out ++ flat_map (hang_lines l.setting (row_plan_view l.row)) (reverse l.hangs);
}

abbrev pub decreases-loop-left : goal.decreases-loop-left
decreases-loop-left l = l.left
