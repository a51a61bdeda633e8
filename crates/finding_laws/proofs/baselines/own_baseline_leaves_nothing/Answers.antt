use Rattle.std.proofs.Common.{map}
use Rattle.finding_filters.specs.Finding.{finding_parts}
use Rattle.finding_laws.proofs.BaselineLemmas.Finding.{own_leaves_none}
use Rattle.finding_laws.proofs.baselines.own_baseline_leaves_nothing.Goals as goal

pub returns : goal.returns
returns c = own_leaves_none c.args._filters.now (map finding_parts c.args._found.now) (map finding_parts c.args._old.now)
