use Rattle.std.proofs.Common.{◌≡◌, ◌≤◌, ◌*◌, take, sum}
use Rattle.oxc_windows.proofs.endings.sum_of.Given as goal

abbrev pub invariant-loop-byte : goal.invariant-loop-byte
invariant-loop-byte l = record {
  so_far : l.sum ≡ sum (take l.byte-index l.byte-items);
  bound : l.sum ≤ 255 * l.byte-index;
}
