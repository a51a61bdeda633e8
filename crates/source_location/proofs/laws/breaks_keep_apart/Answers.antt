use Rattle.source_location.proofs.BreaksLemmas.{breaks_valid}
use Rattle.source_location.proofs.laws.breaks_keep_apart.Goals as goal

pub returns : goal.returns
returns c = breaks_valid c.args._text.now
