-- Those before are read; those left are still to come.
use Rattle.std.proofs.Common.{◌≡◌, length, map}
use Rattle.json.specs.Value.{value_view}
use Rattle.json_inputs.specs.Input.{refused_from, said_from, said_view, with_said}
use Rattle.json_inputs.proofs.input.read_input.Given as goal

abbrev pub invariant-loop-rest : goal.invariant-loop-rest
invariant-loop-rest l = record {
  said_so_far : with_said (said_view l.said) (said_from l.forms l.names_rows l.rows (map value_view l.rest))
      ≡ said_from l.forms l.names_rows l.fn.rows (map value_view l.values);
  none_so_far : refused_from l.forms l.names_rows l.rows (map value_view l.rest)
      ≡ refused_from l.forms l.names_rows l.fn.rows (map value_view l.values);
}

abbrev pub decreases-loop-rest : goal.decreases-loop-rest
decreases-loop-rest l = length l.rest
