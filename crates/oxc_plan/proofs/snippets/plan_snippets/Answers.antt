use Rattle.std.proofs.Common.{◌≡◌, ◌∷◌, [], length, refl, arith}
use Rattle.oxc_plan.proofs.OrderLemmas.{one_in_order}
use Rattle.oxc_plan.proofs.snippets.plan_snippets.Goals as goal

pub plan_snippets_in_order-requires-clause-order : goal.plan_snippets_in_order-requires-clause-order
plan_snippets_in_order-requires-clause-order c =
    let one : length c.args.labels.now ≡ 1 = omega (arith, c.in-len1.len_at_least, c.in-len1.len_below) in
    one_in_order c.args.labels.now (0 ∷ []) one refl
