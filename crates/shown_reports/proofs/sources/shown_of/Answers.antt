-- What is shown is as long as the text.
use Rattle.std.proofs.Common.{◌≡◌, rules}
use Rattle.found_reports.specs.Listed.{held_by}
use Rattle.shown_reports.specs.Sources.{shown_by}
use Rattle.shown_reports.proofs.SourceLemmas.{shown_fits}
use Rattle.shown_reports.proofs.StandingLemmas.{keeps_held}
use Rattle.shown_reports.proofs.sources.shown_of.Goals as goal

pub returns-in-Some-clause-short : goal.returns-in-Some-clause-short
returns-in-Some-clause-short c =
    let held = held_by c.args.source.now in
    let shown : c.as_str.result.now ≡ shown_by c.args.raw c.args.source.now = search rules in
    shown_fits c.args.raw held c.text_of-text.result.now c.as_str.result.now c.text_of-text.ensures.text c.text_of-text.ensures.short (keeps_held c.args.raw held c.text_of-text.ensures.utf8) shown
