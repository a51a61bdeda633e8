use Rattle.textwrap.proofs.WidthLemmas.{outside_le}
use Rattle.textwrap.proofs.pen.width_of.Goals as goal

pub returns-clause-bound : goal.returns-clause-bound
returns-clause-bound c = rw (c.unwrap_or.ensures, c.width.ensures.value) (outside_le c.args.c)
