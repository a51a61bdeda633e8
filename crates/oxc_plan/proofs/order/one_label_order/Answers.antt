use Rattle.oxc_plan.proofs.OrderLemmas.{same_order}
use Rattle.oxc_plan.proofs.order.one_label_order.Goals as goal

pub returns : goal.returns
returns c = same_order c.args._labels.now
