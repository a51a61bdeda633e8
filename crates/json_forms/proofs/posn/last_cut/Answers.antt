-- The texts are those around the last colon.
use Rattle.std.proofs.Common.{arith}
use Rattle.json_forms.proofs.PosnLemmas.{cut_at_last}
use Rattle.json_forms.proofs.posn.last_cut.Goals as goal

pub returns : goal.returns
returns c = cut_at_last 0x3A c.args.text.now c.rsplit_once.result (omega arith) c.rsplit_once.ensures.cases
