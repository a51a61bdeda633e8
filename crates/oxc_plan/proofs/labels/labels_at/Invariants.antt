use Rattle.std.proofs.Common.{◌≡◌, map, take}
use Rattle.oxc_plan.specs.Order.{label_at}
use Rattle.oxc_plan.specs.Plan.{ordered_label, ordered_view}
use Rattle.oxc_plan.proofs.labels.labels_at.Given as goal

abbrev pub invariant-loop-at : goal.invariant-loop-at
invariant-loop-at l = map ordered_view l.found.items ≡ map (λ at. ordered_label (label_at l.labels at)) (take l.at-index l.places)
