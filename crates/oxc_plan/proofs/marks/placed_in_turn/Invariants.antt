use Rattle.std.proofs.Common.{◌≡◌, ◌+◌, ◌^◌, ◌≤◌, ◌++◌, drop}
use Rattle.oxc_plan.specs.Rows.{row_view}
use Rattle.oxc_plan.specs.Marks.{cells_at, placed_marks}
use Rattle.oxc_plan.proofs.marks.placed_in_turn.Given as goal

-- the labels that are left have the marks that are left
abbrev pub invariant-loop-at : goal.invariant-loop-at
invariant-loop-at l = record {
  ahead : l.marks.items ++ placed_marks l.before (cells_at l.tabs (row_view l.row) l.spans (drop l.at-index l.places)) ≡ placed_marks 0 (cells_at l.tabs (row_view l.row) l.spans l.places);
  small : l.before ≤ 2 ^ 38 + l.at-index;
}
