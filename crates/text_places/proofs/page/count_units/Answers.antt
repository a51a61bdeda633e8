use Rattle.std.proofs.Common.{arith}
use Rattle.text_places.proofs.ScanLemmas.{ascii_begun}
use Rattle.text_places.proofs.page.count_units.Goals as goal

pub overflow_cast-result : goal.overflow_cast-result
overflow_cast-result c = omega (arith, c.requires, ascii_begun c.args.encoding c.args.bytes.now c.if-is_ascii.ensures.cases)

pub returns-then-is_ascii : goal.returns-then-is_ascii
returns-then-is_ascii c = omega (arith, ascii_begun c.args.encoding c.args.bytes.now c.if-is_ascii.ensures.cases)
