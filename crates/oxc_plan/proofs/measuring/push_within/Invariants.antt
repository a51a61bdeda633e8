use Rattle.std.proofs.Common.{◌-◌, length}
use Rattle.oxc_plan.specs.Measuring.{HaveColumnsUpTo}
use Rattle.oxc_plan.proofs.measuring.push_within.Given as goal

abbrev pub invariant-loop-columns : goal.invariant-loop-columns
invariant-loop-columns l = HaveColumnsUpTo l.tabs l.text l.places l.columns.items l.offset

abbrev pub decreases-loop-columns : goal.decreases-loop-columns
decreases-loop-columns l = length l.places - length l.columns.items
