-- Only blanks were passed.
use Rattle.std.proofs.Common.{◌≡◌, length}
use Rattle.input_forms.specs.Begun.{first_from}
use Rattle.input_forms.proofs.begun.first_from.Given as goal

abbrev pub invariant-loop-bytes : goal.invariant-loop-bytes
invariant-loop-bytes l = first_from l.bytes ≡ first_from l.initial.bytes

abbrev pub decreases-loop-bytes : goal.decreases-loop-bytes
decreases-loop-bytes l = length l.bytes
