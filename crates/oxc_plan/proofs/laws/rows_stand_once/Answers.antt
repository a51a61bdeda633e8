use Rattle.oxc_plan.proofs.TextsLemmas.{rows_once}
use Rattle.oxc_plan.proofs.laws.rows_stand_once.Goals as goal

pub returns : goal.returns
returns c = rows_once c.args._tab c.args._source.now c.args._labels.now
