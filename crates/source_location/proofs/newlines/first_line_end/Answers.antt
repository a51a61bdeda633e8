use Rattle.source_location.proofs.LinesLemmas.{first_line_found, first_line_whole}
use Rattle.source_location.proofs.newlines.first_line_end.Goals as goal

pub returns-in-Some : goal.returns-in-Some
returns-in-Some c = rw c.len.ensures (first_line_found c.args.text.now c.in-Some.position c.in-Some.ending c.utf8.text (rw c.in-Some.ending-is (rw c.in-Some.position-is c.in-Some.ensures)))

pub returns-in-None : goal.returns-in-None
returns-in-None c = first_line_whole c.args.text.now c.requires c.in-None.ensures
