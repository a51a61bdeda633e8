use Rattle.line_shapes.proofs.PlaceLemmas.{mark_some, mark_none}
use Rattle.line_shapes.proofs.place.next_mark.Goals as goal

pub returns-in-Some : goal.returns-in-Some
returns-in-Some c = mark_some c.args.text.now c.args.from c.in-Some.at c.in-Some.ensures

pub returns-in-None : goal.returns-in-None
returns-in-None c = mark_none c.args.text.now c.args.from c.in-None.ensures
