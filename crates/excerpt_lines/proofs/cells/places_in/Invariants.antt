use Rattle.std.proofs.Common.{◌≡◌, ◌≤◌, ◌*◌, ◌++◌, drop}
use Rattle.excerpt_lines.specs.Cells.{places_from, places_of}
use Rattle.excerpt_lines.proofs.cells.places_in.Given as goal

abbrev pub invariant-loop-k : goal.invariant-loop-k
invariant-loop-k l = record {
  few : l.cell ≤ 8 * l.k;
  value : l.places.items ++ places_from l.cells l.k l.cell (drop l.k l.line) ≡ places_of l.cells l.line;
}
