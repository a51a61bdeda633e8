-- The inputs before have these findings.
use Rattle.std.proofs.Common.{map, length}
use Rattle.girzohal_run.specs.Joined.{finds_parts}
use Rattle.girzohal_run.proofs.SeveralLemmas.{SoFar}
use Rattle.girzohal_run.proofs.several.find_all.Given as goal

abbrev pub invariant-loop-inputs : goal.invariant-loop-inputs
invariant-loop-inputs g l = SoFar (g.S.Store.told l.store) l.asked l.initial.inputs l.inputs (map finds_parts l.all.items)

abbrev pub decreases-loop-inputs : goal.decreases-loop-inputs
decreases-loop-inputs g l = length l.inputs
