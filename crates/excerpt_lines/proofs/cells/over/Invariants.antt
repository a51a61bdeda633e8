use Rattle.std.proofs.Common.{◌≡◌, ◌≤◌, ◌+◌, ◌-◌, length, drop}
use Rattle.excerpt_lines.specs.Cells.{cell_at, over_cell, over_from}
use Rattle.excerpt_lines.proofs.cells.over.Given as goal

abbrev pub invariant-loop-k : goal.invariant-loop-k
invariant-loop-k l = record {
  within : l.k ≤ length l.line;
  at : l.begin ≡ cell_at l.line l.k;
  begun : l.begin ≤ l.cell;
  value : l.k + over_from l.cell l.begin (drop l.k l.line) ≡ over_cell l.line l.cell;
}

abbrev pub decreases-loop-k : goal.decreases-loop-k
decreases-loop-k l = length l.line - l.k
