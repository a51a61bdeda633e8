use Rattle.std.proofs.Common.{◌≡◌, ◌≤◌, ◌*◌, ◌==◌, sum, sum_by, count_by, take}
use Rattle.std.specs.List.{list_any}
use Rattle.std.specs.Simd.Lanes.{Each1}
use Rattle.oxc_windows.proofs.endings.endings_in_block.Given as goal

abbrev pub invariant-loop-pair : goal.invariant-loop-pair
invariant-loop-pair l = record {
  small : Each1 (λ n. n ≤ 2 * l.pair-index) l.counts;
  total : sum l.counts ≡ sum_by (λ pair. count_by (λ byte. byte == 10) pair) (take l.pair-index l.block);
  found : list_any (λ byte. byte == 0) l.least ≡ list_any (λ pair. list_any (λ byte. byte == 13) pair) (take l.pair-index l.block);
}
