use Rattle.std.proofs.Common.{ap, ◌+◌}
use Rattle.text_places.proofs.PlainLemmas.{plain_nearest}
use Rattle.text_places.proofs.plain.nearest_in_plain.Goals as goal

pub returns : goal.returns
returns c e text utf8 is = plain_nearest e text c.args.place c.args.line _ utf8 is (ap (λ n. c.args.line.start + n) c.min.ensures)
