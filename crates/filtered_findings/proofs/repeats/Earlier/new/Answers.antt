use Rattle.filtered_findings.proofs.RepeatLemmas.{empty_seen}
use Rattle.filtered_findings.proofs.repeats.Earlier.new.Goals as goal

pub returns : goal.returns
returns c = empty_seen c.new.result c.new.ensures.empty
