use Rattle.std.proofs.Common.{arith}
use Rattle.text_places.proofs.PagesLemmas.{first_rows}
use Rattle.text_places.proofs.seek.pages_near_row.Goals as goal

pub returns : goal.returns
returns c = record {
  some = c.requires.known.some;
  within = omega arith;
  first = first_rows c.args.pages.now c.args.row c.requires.known c.requires.some;
  behind = λ d lt. absurd (omega (arith, lt));
}
