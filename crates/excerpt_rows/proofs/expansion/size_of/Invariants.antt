use Rattle.std.proofs.Common.{◌≡◌, ◌*◌, ◌≤◌, take}
use Rattle.excerpt_rows.specs.Expansion.{bytes_of, cells_of}
use Rattle.excerpt_rows.proofs.expansion.size_of.Given as goal

abbrev pub invariant-loop-c : goal.invariant-loop-c
invariant-loop-c l = record {
  cells : l.cells ≡ cells_of (take l.c-index l.text);
  bytes : l.bytes ≡ bytes_of (take l.c-index l.text);
  few_cells : l.cells ≤ l.c-index * 3;
  few_bytes : l.bytes ≤ l.c-index * 4;
}
