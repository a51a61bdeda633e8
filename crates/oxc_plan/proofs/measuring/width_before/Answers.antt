use Rattle.std.proofs.Common.{◌≡◌, ◌<◌, ◌∙◌, get_or, ap, subst, arith, length}
use Rattle.std.specs.Ordering.{MatchOrdering}
use Rattle.std.specs.Cmp.{ranks}
use Rattle.oxc_plan.proofs.MeasuringLemmas.{column_found}
use Rattle.oxc_plan.proofs.measuring.width_before.Goals as goal

pub returns-in-Ok-clause-exact : goal.returns-in-Ok-clause-exact
returns-in-Ok-clause-exact c =
    let places = c.args.measured.now.places.items in
    let i = c.in-Ok.found in
    let d = c.index.result.now in
    let met = subst (λ l. get_or l i d ≡ c.args.at) c.deref.ensures.value
    (subst (λ k. MatchOrdering k (get_or c.deref.result.now i d < c.args.at) (get_or c.deref.result.now i d ≡ c.args.at) (c.args.at < get_or c.deref.result.now i d)) (c.in-Ok.ensures.ok d) (ranks (get_or c.deref.result.now i d) c.args.at)) in
    c.index.ensures ∙ (column_found c.args.tabs c.args.measured.now.text.now places c.args.measured.now.columns.items i c.args.at d c.requires.known (omega (arith, c.in-Ok.ensures.bound, ap length c.deref.ensures.value)) met).0
