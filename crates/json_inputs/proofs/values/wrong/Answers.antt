-- The line names the row and the column.
use Rattle.json_inputs.proofs.values.wrong.Goals as goal

pub returns-in-Ok : goal.returns-in-Ok
returns-in-Ok c = record { row = _; column = _; is = c.in-Ok.ensures.ok }
