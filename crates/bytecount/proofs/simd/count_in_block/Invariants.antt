use Rattle.std.proofs.Common.{◌≡◌, ◌≤◌, ◌==◌, sum, sum_by, count_by, take}
use Rattle.std.specs.Simd.Lanes.{Each1}
use Rattle.bytecount.proofs.simd.count_in_block.Given as goal

abbrev pub invariant-loop-lanes : goal.invariant-loop-lanes
invariant-loop-lanes l = record {
  small : Each1 (λ n. n ≤ l.lanes-index) l.counts;
  total : sum l.counts ≡ sum_by (λ lanes. count_by (λ byte. byte == l.needle) lanes) (take l.lanes-index l.block);
}
