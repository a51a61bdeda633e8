use Rattle.std.proofs.Common.{◌∙◌}
use Rattle.finding_summaries.proofs.CountLemmas.{reached}
use Rattle.finding_summaries.proofs.counted.one_reaches.Goals as goal

pub returns : goal.returns
returns c = c.any_reaches.ensures ∙ reached c.args.at c.args.found.now.files c.reports.result.now c.args.found.now.found c.reports.ensures.found
