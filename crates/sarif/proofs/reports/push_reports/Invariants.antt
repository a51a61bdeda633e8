-- None of the locations before names a file.
use Rattle.std.proofs.Common.{◌≡◌, ◌-◌, drop, map, take}
use Rattle.sarif.specs.Findings.{finding_view}
use Rattle.sarif.specs.Meaning.{reports_among}
use Rattle.sarif.specs.Views.{placed_view, reading_view}
use Rattle.sarif.proofs.reports.push_reports.Given as goal

abbrev pub invariant-loop-at : goal.invariant-loop-at
invariant-loop-at l = record {
  among : reports_among (reading_view l.reading) (finding_view l.finding) (map (placed_view l.known) (take (l.count - l.at) (drop l.at l.placed))) (map (placed_view l.known) (drop l.count l.placed))
      ≡ reports_among (reading_view l.reading) (finding_view l.finding) (map (placed_view l.known) (take l.count l.placed)) (map (placed_view l.known) (drop l.count l.placed));
  found : l.found ≡ l.initial.found;
}
