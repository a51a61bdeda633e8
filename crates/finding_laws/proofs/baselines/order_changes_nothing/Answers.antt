use Rattle.std.proofs.Common.{map}
use Rattle.finding_filters.specs.Finding.{finding_parts}
use Rattle.finding_laws.proofs.BaselineLemmas.Order.{same_verdicts, same_verdicts_of_all}
use Rattle.finding_laws.proofs.baselines.order_changes_nothing.Goals as goal

pub returns-clause-all : goal.returns-clause-all
returns-clause-all c = λ plain same.
    same_verdicts_of_all c.args._filters.now (map finding_parts c.args._found.now) (map finding_parts c.args._old.now) (map finding_parts c.args._others.now) plain same

pub returns-clause-once : goal.returns-clause-once
returns-clause-once c = λ same.
    same_verdicts c.args._filters.now (map finding_parts c.args._found.now) (map finding_parts c.args._old.now) (map finding_parts c.args._others.now) same
