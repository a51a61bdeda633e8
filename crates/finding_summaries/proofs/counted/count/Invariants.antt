-- The reports before are counted.
use Rattle.std.proofs.Common.{◌≡◌, ◌≤◌, take}
use Rattle.std.specs.List.{count_by}
use Rattle.found_reports.specs.declared.reports.FoundReport.{FoundReport}
use Rattle.finding_summaries.specs.Counted.{is_of}
use Rattle.finding_summaries.proofs.counted.count.Given as goal

abbrev pub invariant-loop-report : goal.invariant-loop-report
invariant-loop-report l =
    (l.count ≡ count_by (λ (it : FoundReport). is_of l.wanted it.diagnostic.severity) (take l.report-index l.reports)) × (l.count ≤ l.report-index)
