use Rattle.std.proofs.Common.{arith, get_or}
use Rattle.text_places.proofs.PlainLemmas.{is_cr}
use Rattle.text_places.proofs.page_text.is_plain.Goals as goal

pub returns-in-None : goal.returns-in-None
returns-in-None c is = record {
  ascii = rw is at c.is_ascii.ensures.cases;
  no_cr = λ place lt cr. c.in-None.ensures place (omega arith) (omega (arith, lt)) (is_cr (get_or c.args.bytes.now place 0) cr);
}
