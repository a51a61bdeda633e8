use Rattle.std.proofs.Common.{◌≡◌, ◌∙◌}
use Rattle.oxc_protocol.specs.declared.protocol.Severity.TheVariants.{Advice, Warning, Error}
use Rattle.finding_summaries.specs.Counted.{counts_of}
use Rattle.finding_summaries.proofs.CountLemmas.{counted}
use Rattle.finding_summaries.proofs.counted.counts_of.Goals as goal

pub returns : goal.returns
unfolding counts_of
returns c =
    let errors = c.count.ensures ∙ counted Error c.args.found.now.files c.reports-reports.result.now c.args.found.now.found c.reports-reports.ensures.found in
    let warnings = c.count-2.ensures ∙ counted Warning c.args.found.now.files c.reports-reports.result.now c.args.found.now.found c.reports-reports.ensures.found in
    let notes = c.count-3.ensures ∙ counted Advice c.args.found.now.files c.reports-reports.result.now c.args.found.now.found c.reports-reports.ensures.found in
    cc
