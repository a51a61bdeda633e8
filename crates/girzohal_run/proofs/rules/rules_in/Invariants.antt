-- The patterns so far, and those of the texts that are left.
use Rattle.std.proofs.Common.{◌≡◌, ◌++◌, map, length}
use Rattle.girzohal_run.specs.Rules.{rule_of}
use Rattle.girzohal_run.proofs.rules.rules_in.Given as goal

abbrev pub invariant-loop-texts : goal.invariant-loop-texts
invariant-loop-texts l = l.rules.items ++ map rule_of l.texts ≡ map rule_of l.initial.texts

abbrev pub decreases-loop-texts : goal.decreases-loop-texts
decreases-loop-texts l = length l.texts
