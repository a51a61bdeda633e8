use Rattle.std.proofs.Common.{map}
use Rattle.finding_filters.specs.Finding.{finding_parts}
use Rattle.finding_laws.proofs.BaselineLemmas.Late.{late_taken_last, rest_taken}
use Rattle.finding_laws.proofs.baselines.late_are_taken_last.Goals as goal

pub returns-clause-all : goal.returns-clause-all
returns-clause-all c = λ kind plain. rest_taken c.args._filters.now kind (map finding_parts c.args._found.now) (map finding_parts c.args._old.now) plain

pub returns-clause-late : goal.returns-clause-late
returns-clause-late c = λ kind plain. late_taken_last c.args._filters.now kind (map finding_parts c.args._found.now) (map finding_parts c.args._old.now) plain
