-- The reports so far and those to come are all reports, and the numbers of those so far are in range.
use Rattle.std.proofs.Common.{◌≡◌, ◌++◌, All, drop, map, take}
use Rattle.serde_json.specs.View.{view}
use Rattle.render_files.specs.Given.{given_report}
use Rattle.documents.specs.Written.{HavePlaces, report_value}
use Rattle.documents.proofs.written.reports_value.Given as goal

abbrev pub invariant-loop-report : goal.invariant-loop-report
invariant-loop-report l = record {
  values : map view l.values.items ++ map report_value (map given_report (drop l.report-index l.reports)) ≡ map report_value (map given_report l.reports);
  ranges : All (λ report. HavePlaces (given_report report)) (take l.report-index l.reports);
}
