use Rattle.std.proofs.Common.{arith}
use Rattle.text_places.proofs.PlainLemmas.{plain_found, plain_missed}
use Rattle.text_places.proofs.plain.offset_in_plain.Goals as goal

pub returns-then-place-line : goal.returns-then-place-line
returns-then-place-line c e text utf8 is = plain_found e text c.args.place c.args.line utf8 is (omega arith)

pub returns-else-place-line : goal.returns-else-place-line
returns-else-place-line c e text utf8 is = plain_missed e text c.args.place c.args.line utf8 is (omega arith)
