use Rattle.std.proofs.Common.{map}
use Rattle.finding_filters.specs.Finding.{finding_parts}
use Rattle.finding_laws.proofs.BaselineLemmas.Finding.{longer_leaves_no_more}
use Rattle.finding_laws.proofs.baselines.longer_baseline_leaves_no_more.Goals as goal

pub returns : goal.returns
returns c =
    longer_leaves_no_more c.args._filters.now (map finding_parts c.args._found.now) (map finding_parts c.args._old.now) (map finding_parts c.args._more.now)
