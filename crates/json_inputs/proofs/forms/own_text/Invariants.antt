-- Those before are there; those left are still to come.
use Rattle.std.proofs.Common.{◌≡◌, ◌++◌, flat_map, string_bytes, length}
use Rattle.json_inputs.specs.Forms.{row_text}
use Rattle.json_inputs.proofs.forms.own_text.Given as goal

abbrev pub invariant-loop-rest : goal.invariant-loop-rest
invariant-loop-rest l = string_bytes l.text ++ flat_map row_text l.rest ≡ flat_map row_text l.rows

abbrev pub decreases-loop-rest : goal.decreases-loop-rest
decreases-loop-rest l = length l.rest
