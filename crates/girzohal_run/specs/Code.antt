-- The exit status of each end of a run.
use Rattle.std.specs.Prelude.{ℕ}
use Rattle.girzohal_run.specs.declared.status.Status.{Status}
use Rattle.girzohal_run.specs.declared.status.Status.TheVariants.{Clean, Reached, Usage, NoForm, ReadFault, SinkFault, OutOfMemory, InputTooLong}

abbrev pub code_of : Status → ℕ
code_of Clean = 0
code_of Reached = 1
code_of Usage = 2
code_of NoForm = 3
code_of ReadFault = 4
code_of SinkFault = 5
code_of OutOfMemory = 6
code_of InputTooLong = 7
