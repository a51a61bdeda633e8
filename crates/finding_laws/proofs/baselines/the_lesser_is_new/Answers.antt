use Rattle.std.proofs.Common.{map}
use Rattle.finding_filters.specs.Finding.{finding_parts}
use Rattle.finding_laws.proofs.BaselineLemmas.Late.{lesser_of_classes, lesser_of_kinds}
use Rattle.finding_laws.proofs.baselines.the_lesser_is_new.Goals as goal

pub returns-clause-without_rows : goal.returns-clause-without_rows
returns-clause-without_rows c = λ kind none. lesser_of_kinds c.args._filters.now kind (map finding_parts c.args._found.now) (map finding_parts c.args._old.now) none

pub returns-clause-with_rows : goal.returns-clause-with_rows
returns-clause-with_rows c = λ class all. lesser_of_classes c.args._filters.now class (map finding_parts c.args._found.now) (map finding_parts c.args._old.now) all
