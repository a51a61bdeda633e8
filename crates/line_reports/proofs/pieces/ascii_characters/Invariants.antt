use Rattle.std.proofs.Common.{◌≡◌, ◌≤◌, ◌++◌, IsAscii, drop, length, vec_capacity}
use Rattle.line_reports.proofs.pieces.ascii_characters.Given as goal

abbrev pub invariant-loop-byte : goal.invariant-loop-byte
invariant-loop-byte l = record {
  items : l.all.items ++ drop l.byte-index l.line ≡ l.line;
  place : length l.all.items ≡ l.byte-index;
  room : length l.line ≤ vec_capacity l.all;
  ascii : IsAscii l.all.items;
}
