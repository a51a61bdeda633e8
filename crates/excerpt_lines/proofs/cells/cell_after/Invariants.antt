use Rattle.std.proofs.Common.{◌≡◌, ◌≤◌, ◌+◌, ◌*◌, length}
use Rattle.excerpt_lines.specs.Cells.{cells_of}
use Rattle.excerpt_lines.proofs.cells.cell_after.Given as goal

abbrev pub invariant-loop-text : goal.invariant-loop-text
invariant-loop-text l = record {
  value : cells_of l.after l.text ≡ cells_of l.cell l.initial.text;
  few : l.after + 8 * length l.text ≤ l.cell + 8 * length l.initial.text;
}

abbrev pub decreases-loop-text : goal.decreases-loop-text
decreases-loop-text l = length l.text
