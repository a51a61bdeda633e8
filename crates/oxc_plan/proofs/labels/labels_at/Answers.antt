use Rattle.std.proofs.Common.{◌∙◌, ap, map}
use Rattle.std.proofs.lemmas.List.{take_all}
use Rattle.oxc_plan.specs.Order.{label_at}
use Rattle.oxc_plan.specs.Plan.{ordered_label, ordered_view}
use Rattle.oxc_plan.proofs.PlanLemmas.{views_more}
use Rattle.oxc_plan.proofs.labels.labels_at.Goals as goal

pub loop-at-preserved : goal.loop-at-preserved
loop-at-preserved c =
    rw c.in_ok-push.ensures.items
    (views_more ordered_view (λ at. ordered_label (label_at c.args.labels.now at)) c.loop-at.found.items c.ordered_label.result c.args.places.now c.loop-at.at-index 0
    c.loop-at-test.true c.loop-at.invariant c.ordered_label.ensures)

pub returns : goal.returns
returns c =
    c.loop-at.invariant
    ∙ ap (map (λ at. ordered_label (label_at c.args.labels.now at))) (take_all c.loop-at.at-index c.args.places.now c.loop-at-test.false)
