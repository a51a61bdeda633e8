use Rattle.oxc_plan.proofs.TextsLemmas.{texts_once}
use Rattle.oxc_plan.proofs.laws.texts_hang_once.Goals as goal

pub returns : goal.returns
returns c = texts_once c.args._tab c.args._source.now c.args._labels.now
