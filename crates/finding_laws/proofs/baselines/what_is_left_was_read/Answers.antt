use Rattle.finding_laws.proofs.BaselineLemmas.Part.{left_part}
use Rattle.finding_laws.proofs.baselines.what_is_left_was_read.Goals as goal

pub returns : goal.returns
returns c = λ rules notes parts left line is. left_part rules notes parts left line is
