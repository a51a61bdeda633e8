-- The inputs before are no lines.
use Rattle.std.proofs.Common.{◌≡◌, length}
use Rattle.girzohal_run.specs.Several.{have_lines}
use Rattle.girzohal_run.proofs.several.have_lines.Given as goal

abbrev pub invariant-loop-inputs : goal.invariant-loop-inputs
invariant-loop-inputs l = have_lines l.from l.inputs ≡ have_lines l.from l.initial.inputs

abbrev pub decreases-loop-inputs : goal.decreases-loop-inputs
decreases-loop-inputs l = length l.inputs
