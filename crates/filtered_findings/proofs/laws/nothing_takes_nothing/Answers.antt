use Rattle.std.proofs.Common.{map}
use Rattle.finding_filters.specs.Finding.{finding_parts}
use Rattle.filtered_findings.proofs.KnownLemmas.{none_in_baseline}
use Rattle.filtered_findings.proofs.laws.nothing_takes_nothing.Goals as goal

pub returns : goal.returns
returns c = none_in_baseline c.args._filters.now (map finding_parts c.args._found.now)
