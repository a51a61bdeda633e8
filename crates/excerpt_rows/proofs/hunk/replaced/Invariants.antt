use Rattle.std.proofs.Common.{◌≡◌, ◌≤◌, take, map, length}
use Rattle.std.specs.List.{flat_map, sum_by}
use Rattle.excerpt_rows.specs.Hunk.{row_list, taken}
use Rattle.excerpt_rows.proofs.HunkLemmas.{StepsSoFar}
use Rattle.excerpt_rows.proofs.hunk.replaced.Given as goal

abbrev pub invariant-loop-row : goal.invariant-loop-row
invariant-loop-row l = record {
  steps : StepsSoFar l.rows l.first l.row-index l.edit.count (length l.edit.rows.items);
  at : l.edit.first ≡ l.first;
  count : l.edit.count ≡ sum_by taken (take l.row-index l.rows);
  rows_are : map (λ row. row.now) l.edit.rows.items ≡ flat_map row_list (take l.row-index l.rows);
  few : l.edit.count ≤ l.row-index;
}
