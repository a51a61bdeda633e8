use Rattle.std.proofs.Common.{ℕ, ◌+◌, ◌≤◌, ◌==◌, [], List, get_or, count_by, refl, sym, ap, ◌∙◌, arith}
use Rattle.std.proofs.lemmas.List.Sums.{sum_by_more}
use Rattle.std.proofs.lemmas.Simd.{Each1-replicate}
use Rattle.bytecount.proofs.LaneLemmas.{AddsLanes, adds_lanes}
use Rattle.bytecount.proofs.simd.count_in_block.Goals as goal

pub loop-lanes-init : goal.loop-lanes-init
loop-lanes-init c = record { small = Each1-replicate (λ n. n ≤ 0) 32 0 (omega arith); total = refl }

-- the flags of one vector more
step : (c : goal.After-bytewise_equal-counts) → AddsLanes (λ byte. byte == c.args.needle) c.loop-lanes.counts c.bytewise_equal-counts.result c.loop-lanes.lanes-index (get_or c.args.block.now c.loop-lanes.lanes-index [])
step c =
    adds_lanes (λ byte. byte == c.args.needle) c.loop-lanes.counts c.bytewise_equal-counts.result c.loop-lanes.lanes-index _
    (omega arith) c.loop-lanes.auto.counts.0 (c.told-block c.loop-lanes.lanes-index c.loop-lanes-test.true) c.loop-lanes.invariant.small c.bytewise_equal-counts.ensures

pub loop-lanes-preserved : goal.loop-lanes-preserved
loop-lanes-preserved c =
    let hits : List ℕ → ℕ = λ lanes. count_by (λ byte. byte == c.args.needle) lanes in
    record {
      small = (step c).small;
      total =
          (step c).total ∙ ap (λ n. n + hits (get_or c.args.block.now c.loop-lanes.lanes-index [])) c.loop-lanes.invariant.total
          ∙ sym (sum_by_more hits c.args.block.now c.loop-lanes.lanes-index [] c.loop-lanes-test.true);
    }
