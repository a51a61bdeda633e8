-- The reports so far and those to come are all reports.
use Rattle.std.proofs.Common.{◌≡◌, ◌++◌, drop, map}
use Rattle.render_files.specs.Given.{given_report}
use Rattle.report_arrays.specs.Values.{report}
use Rattle.report_arrays.proofs.copied.reports_of.Given as goal

abbrev pub invariant-loop-report : goal.invariant-loop-report
invariant-loop-report l = map given_report l.made.items ++ map (report l.texts l.labels) (drop l.report-index l.reports) ≡ map (report l.texts l.labels) l.reports
