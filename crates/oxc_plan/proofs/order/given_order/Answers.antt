use Rattle.std.proofs.Common.{◌≡◌, ◌+◌, arith, ap, sym, ◌∙◌, suc}
use Rattle.std.specs.List.{range_with_len}
use Rattle.oxc_windows.proofs.Counting.{range_with_len_push}
use Rattle.oxc_plan.proofs.order.given_order.Goals as goal

pub loop-at-preserved : goal.loop-at-preserved
loop-at-preserved c =
    let more : suc c.loop-at.at ≡ c.loop-at.at + 1 = omega arith in
    rw (c.in_ok-push.ensures.items, c.loop-at.invariant) (sym (range_with_len_push 0 c.loop-at.at c.loop-at.at (omega arith)) ∙ ap (range_with_len 0) more)
