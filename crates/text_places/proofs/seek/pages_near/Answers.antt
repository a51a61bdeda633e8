use Rattle.std.proofs.Common.{arith}
use Rattle.text_places.proofs.PagesLemmas.{first_bytes}
use Rattle.text_places.proofs.seek.pages_near.Goals as goal

pub returns : goal.returns
returns c = record {
  some = c.requires.some;
  within = omega arith;
  first = first_bytes c.args.pages.now c.args.offset c.requires;
  behind = λ d lt. absurd (omega (arith, lt));
}
