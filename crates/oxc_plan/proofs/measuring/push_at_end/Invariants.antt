use Rattle.std.proofs.Common.{◌-◌, length}
use Rattle.oxc_plan.specs.Measuring.{HaveColumnsUpTo}
use Rattle.oxc_plan.proofs.measuring.push_at_end.Given as goal

abbrev pub invariant-loop-pen : goal.invariant-loop-pen
invariant-loop-pen l = HaveColumnsUpTo l.fn.tabs l.fn.text l.places l.columns.items (length l.fn.text)

abbrev pub decreases-loop-pen : goal.decreases-loop-pen
decreases-loop-pen l = length l.places - length l.columns.items
