use Rattle.std.proofs.Common.{◌≡◌, sum_by, ◌+◌, ◌<◌, ◌^◌}
use Rattle.std.specs.Iterator.{HoldsAlong}
use Rattle.text_size.proofs.size.TextSizeSumRefTextSize.sum.Given as goal

-- the total is the sum so far, and stays in 32 bits whatever is still to come
abbrev pub invariant-loop-size : goal.invariant-loop-size
invariant-loop-size g l =
    (goal.iterator-loop-size g).can_next l.size-iterator
    × (goal.iterator-loop-size g).is_finite l.size-iterator
    × (l.total ≡ sum_by (λ size. size.now) l.yielded)
    × HoldsAlong g.I.Iterator.next_gives l.size-iterator (λ sizes. l.total + sum_by (λ size. size.now) sizes < 2 ^ 32)
