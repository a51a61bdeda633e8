use Rattle.std.proofs.Common.{◌≡◌, ◌++◌, drop}
use Rattle.excerpt_lines.specs.Cells.{below}
use Rattle.excerpt_lines.proofs.cells.cells_below.Given as goal

abbrev pub invariant-loop-cell : goal.invariant-loop-cell
invariant-loop-cell l = l.places.items ++ below l.end (drop l.cell-index l.cells) ≡ below l.end l.cells
