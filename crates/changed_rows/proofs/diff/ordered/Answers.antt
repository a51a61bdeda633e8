-- What is sorted is in order.
use Rattle.changed_rows.proofs.DiffLemmas.{sorted_ordered}
use Rattle.changed_rows.proofs.diff.ordered.Goals as goal

pub invariant_of-result : goal.invariant_of-result
invariant_of-result c = (sorted_ordered _ c.sort_unstable.ensures.sorted, sorted_ordered _ c.sort_unstable-2.ensures.sorted)
