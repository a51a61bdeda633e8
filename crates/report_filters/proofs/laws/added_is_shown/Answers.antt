use Rattle.finding_filters.specs.Finding.{finding_parts}
use Rattle.report_filters.proofs.LawLemmas.{added_shown}
use Rattle.report_filters.proofs.laws.added_is_shown.Goals as goal

pub returns : goal.returns
returns c = λ strip text says is. added_shown c.args._diff.now (finding_parts c.args._finding.now) strip text says is
