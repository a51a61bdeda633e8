use Rattle.std.proofs.Common.{◌∙◌, ap, map}
use Rattle.oxc_plan.specs.Order.{spans_in_order, span_of, label_at}
use Rattle.oxc_plan.proofs.order.spans_in_order.Goals as goal

pub returns : goal.returns
unfolding spans_in_order
returns c = c.in_ok-spans.ensures ∙ ap (map (λ at. span_of (label_at c.args.labels.now at))) (c.deref.ensures.value ∙ c.in_ok-order.ensures.value)
