use Rattle.std.proofs.Common.{◌≡◌, ◌≤◌, ◌*◌, ◌-◌, length}
use Rattle.excerpt_lines.specs.Cells.{cell_at}
use Rattle.excerpt_lines.proofs.ItemLemmas.{AddedSoFar}
use Rattle.excerpt_lines.proofs.items.push_items.Given as goal

-- what covers the rest covers, after the items so far, the whole
abbrev pub invariant-loop-item : goal.invariant-loop-item
invariant-loop-item l = record {
  within : l.next ≤ length l.line;
  cell : l.next_cell ≡ cell_at l.line l.next;
  few : l.next_cell ≤ 8 * l.next;
  added : AddedSoFar l.line l.hung l.at l.initial.items.items l.next l.items.items;
}

abbrev pub decreases-loop-item : goal.decreases-loop-item
decreases-loop-item l = length l.line - l.next
