-- The locations come first among the places, and the related ones behind them.
use Rattle.std.proofs.Common.{◌≡◌, ◌++◌, ◌∙◌, ap, arith, length, map, sym}
use Rattle.std.proofs.lemmas.List.{length-map}
use Rattle.sarif.specs.Findings.{finding_view, spot_view}
use Rattle.sarif.specs.Labels.{placed}
use Rattle.sarif.specs.Meaning.{finding_reports}
use Rattle.sarif.specs.Views.{placed_view, reading_view}
use Rattle.sarif.proofs.ReportLemmas.{among_parts, on_ok_added}
use Rattle.sarif.proofs.reports.push_finding.Goals as goal

pub returns-clause-added : goal.returns-clause-added
unfolding finding_reports finding_view
returns-clause-added g c =
    let reading = reading_view c.args.reading.now in
    let finding = c.args.finding.now in
    let meant = placed (g.S.Sources.told c.args.sources.now) reading in
    let first = map meant (map spot_view finding.locations.items) in
    let rest = map meant (map spot_view finding.related.items) in
    let before = c.push_placed.new in
    let after = c.push_placed-2.new in
    let one : map (placed_view before.known.files.items) before.placed.items ≡ first = rw (c.new-placed.ensures.items, c.deref.ensures.value) at c.in_ok-push_placed.ensures.placed in
    let all : map (placed_view after.known.files.items) after.placed.items ≡ first ++ rest = rw (one, c.deref-2.ensures.value) at c.in_ok-push_placed-2.ensures.placed in
    let len : length before.placed.items ≡ length first = sym (length-map before.placed.items (placed_view before.known.files.items)) ∙ ap length one in
    let many : c.len-count.result ≡ length first = omega (arith, c.len-count.ensures, before.placed.ok.0, len) in
    let parts = among_parts reading (finding_view finding) after.known.files.items after.placed.items first rest c.len-count.result all many in
    on_ok_added c.push_reports.result c.push_reports.new.found.found after.found.found c.args.found.now.found _ _
    (rw (c.deref-3.ensures.value, c.deref-4.ensures.value) at c.push_reports.ensures.added)
    (c.in_ok-push_placed-2.ensures.found ∙ c.in_ok-push_placed.ensures.found) parts
