-- The line names the row and the word.
use Rattle.json_inputs.proofs.forms.wrong_row.Goals as goal

pub returns-in-Ok : goal.returns-in-Ok
returns-in-Ok c = record { row = _; word = _; is = c.in-Ok.ensures.ok }
