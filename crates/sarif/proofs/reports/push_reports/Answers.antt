-- The first location that names a file, or one less.
use Rattle.std.proofs.Common.{◌∙◌, ap, drop, map, sym}
use Rattle.sarif.specs.Findings.{finding_view}
use Rattle.sarif.specs.Views.{known_view, placed_view, reading_view}
use Rattle.sarif.proofs.ReportLemmas.{among_found, among_skip, on_ok_added}
use Rattle.sarif.proofs.reports.push_reports.Goals as goal

pub returns-in-Some-clause-added : goal.returns-in-Some-clause-added
returns-in-Some-clause-added c =
    let found = among_found (reading_view c.args.reading.now) (finding_view c.args.finding.now) c.args.known.now c.args.placed.now c.args.count c.loop-at.at _ (known_view c.in-Some.file.now)
    c.loop-at-test.true c.requires.count (sym c.in-Some.ensures.view) in
    on_ok_added c.push_at.result c.push_at.new.found.found c.loop-at.found.found c.args.found.now.found _ _ c.push_at.ensures.added (ap (λ it. it.found) c.loop-at.invariant.found) (sym found ∙ c.loop-at.invariant.among)

pub loop-at-preserved : goal.loop-at-preserved
loop-at-preserved c =
    let places = c.args.placed.now in
    let skipped = among_skip (reading_view c.args.reading.now) (finding_view c.args.finding.now) c.args.known.now places c.args.count c.loop-at.at (map (placed_view c.args.known.now) (drop c.args.count places)) _
    c.loop-at-test.true c.requires.count (sym c.in_default.ensures.view) in
    record { among = sym skipped ∙ c.loop-at.invariant.among; found = c.loop-at.invariant.found }
