use Rattle.oxc_plan.proofs.GroupsLemmas.{same_groups}
use Rattle.oxc_plan.proofs.grouping.one_grouping.Goals as goal

pub returns : goal.returns
returns c = same_groups c.args._len c.args._breaks.now c.args._spans.now 0
