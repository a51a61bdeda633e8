-- Those before are there; those left are still to come.
use Rattle.std.proofs.Common.{◌≡◌, ◌++◌, flat_map, length}
use Rattle.json_inputs.specs.Parts.{line_of}
use Rattle.json_inputs.proofs.beside.lines_beside.Given as goal

abbrev pub invariant-loop-rest : goal.invariant-loop-rest
invariant-loop-rest l = l.lines.items ++ flat_map (line_of l.bytes) l.rest ≡ flat_map (line_of l.bytes) l.pieces

abbrev pub decreases-loop-rest : goal.decreases-loop-rest
decreases-loop-rest l = length l.rest
