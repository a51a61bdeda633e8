use Rattle.std.proofs.Common.{arith}
use Rattle.text_places.proofs.UnitsLemmas.{before-more}
use Rattle.text_places.proofs.page.place_by_byte.Goals as goal

pub loop-place-preserved : goal.loop-place-preserved
loop-place-preserved c = record {
  counted = omega (arith, before-more c.args.encoding c.args.bytes.now c.loop-place.place c.loop-place-test.true, c.units_begun.ensures.value, c.units_begun-in-loop-place.ensures.value);
  behind = omega arith;
  within = omega arith;
}

pub returns-else-units_begun-left-clause-last : goal.returns-else-units_begun-left-clause-last
returns-else-units_begun-left-clause-last c = record {
  upto = omega arith;
  few = omega arith;
  more = λ h. omega (arith, before-more c.args.encoding c.args.bytes.now c.loop-place.place h, c.units_begun.ensures.value);
}
