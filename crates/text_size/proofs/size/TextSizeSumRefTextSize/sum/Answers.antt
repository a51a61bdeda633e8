use Rattle.std.proofs.Common.{arith, rules}
use Rattle.std.proofs.lemmas.List.Sums.{sum_by_push}
use Rattle.text_size.proofs.SumLemmas.{fits_now, fits_on}
use Rattle.text_size.proofs.size.TextSizeSumRefTextSize.sum.Goals as goal

pub add_assign-requires : goal.add_assign-requires
add_assign-requires g c = fits_now (λ size. size.now) g.I.Iterator.next_gives _ _ _ _ c.loop-size.invariant.3 c.in-Some.ensures.steps

pub loop-size-preserved : goal.loop-size-preserved
loop-size-preserved g c = (search rules, search rules, omega (arith, sum_by_push (λ size. size.now) c.loop-size.yielded c.in-Some.size), rw c.add_assign.ensures.after (fits_on (λ size. size.now) g.I.Iterator.next_gives _ _ _ _ c.loop-size.invariant.3 c.in-Some.ensures.steps))
