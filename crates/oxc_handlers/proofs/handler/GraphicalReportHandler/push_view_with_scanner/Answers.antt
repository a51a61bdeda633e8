use Rattle.std.proofs.Common.{arith, refl}
use Rattle.oxc_plan.proofs.OrderLemmas.{one_in_order}
use Rattle.oxc_handlers.proofs.handler.GraphicalReportHandler.push_view_with_scanner.Goals as goal

pub push_in_order-requires-clause-order : goal.push_in_order-requires-clause-order
push_in_order-requires-clause-order c = one_in_order c.args.view.now.labels.now _ (omega (arith, c.in-len1.len_at_least, c.in-len1.len_below)) refl
