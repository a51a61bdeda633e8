-- The rows before are there; those left are still to come.
use Rattle.std.proofs.Common.{◌≡◌, ◌++◌, length}
use Rattle.json_inputs.specs.Parts.{rows_from}
use Rattle.json_inputs.proofs.values.rows_of.Given as goal

abbrev pub invariant-loop-rest : goal.invariant-loop-rest
invariant-loop-rest l = l.rows.items ++ rows_from l.bytes l.at l.row l.rest ≡ rows_from l.bytes 0 1 l.pieces

abbrev pub decreases-loop-rest : goal.decreases-loop-rest
decreases-loop-rest l = length l.rest
