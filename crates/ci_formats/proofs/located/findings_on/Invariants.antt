use Rattle.std.proofs.Common.{◌≡◌, map, take}
use Rattle.found_reports.specs.Kept.{file_view, report_view}
use Rattle.ci_formats.specs.Finding.{finding_of, finding_parts}
use Rattle.ci_formats.proofs.located.findings_on.Given as goal

abbrev pub invariant-loop-report : goal.invariant-loop-report
invariant-loop-report l = map finding_parts l.findings.items ≡ map finding_of (map (report_view (map file_view l.files)) (take l.report-index l.reports))
