use Rattle.finding_filters.specs.Finding.{finding_parts}
use Rattle.report_filters.proofs.LawLemmas.{all_left, shown_filed}
use Rattle.report_filters.proofs.laws.shown_is_in_a_file.Goals as goal

pub returns-clause-file : goal.returns-clause-file
returns-clause-file c = λ is. shown_filed c.args._diff.now (finding_parts c.args._finding.now) is

pub returns-clause-all : goal.returns-clause-all
returns-clause-all c = all_left c.args._diff.now (finding_parts c.args._finding.now)
