-- The patterns so far, and those of the texts that are left.
use Rattle.std.proofs.Common.{◌≡◌, ◌++◌, map, length}
use Rattle.girzohal_run.specs.Rules.{glob_of}
use Rattle.girzohal_run.proofs.rules.globs_of.Given as goal

abbrev pub invariant-loop-texts : goal.invariant-loop-texts
invariant-loop-texts l = l.globs.items ++ map glob_of l.texts ≡ map glob_of l.initial.texts

abbrev pub decreases-loop-texts : goal.decreases-loop-texts
decreases-loop-texts l = length l.texts
