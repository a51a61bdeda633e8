use Rattle.oxc_plan.proofs.TextsLemmas.{all_in_order}
use Rattle.oxc_plan.proofs.laws.labels_stand_once.Goals as goal

pub returns : goal.returns
returns c = all_in_order c.args._labels.now
