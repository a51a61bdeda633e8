-- What is left is there once, or not.
use Rattle.excerpt_rows.proofs.AlignmentLemmas.{no_part}
use Rattle.excerpt_rows.proofs.alignment.part.Goals as goal

pub returns-in-None : goal.returns-in-None
returns-in-None c = no_part c.args.printed.now c.args.text.now c.in-Some.start c.in-Some.end c.in-Some.ensures (rw c.in-None.is at c.in_ok-skipped.ensures)
