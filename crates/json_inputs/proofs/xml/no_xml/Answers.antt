-- The line names the row, the column and what is wanted.
use Rattle.json_inputs.proofs.xml.no_xml.Goals as goal

pub returns-in-Ok : goal.returns-in-Ok
returns-in-Ok c = record { row = c.args.row; column = c.args.column; wanted = c.args.wanted; is = rw c.words-words.ensures at c.in-Ok.ensures.ok }
