use Rattle.std.proofs.Common.{◌≡◌, ◌*◌, ◌≤◌, take}
use Rattle.excerpt_rows.specs.Expansion.{bytes_of}
use Rattle.excerpt_rows.proofs.expansion.byte_len.Given as goal

abbrev pub invariant-loop-c : goal.invariant-loop-c
invariant-loop-c l = record {
  value : l.bytes ≡ bytes_of (take l.c-index l.row);
  few : l.bytes ≤ l.c-index * 4;
}
