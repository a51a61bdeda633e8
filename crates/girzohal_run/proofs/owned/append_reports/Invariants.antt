-- The reports before are appended, and the others come next.
use Rattle.std.proofs.Common.{◌≡◌, ◌++◌, All, map, drop, length}
use Rattle.found_reports.specs.Kept.{Stands, report_view}
use Rattle.girzohal_run.proofs.owned.append_reports.Given as goal

abbrev pub invariant-loop-reports : goal.invariant-loop-reports
invariant-loop-reports l =
    let own = drop l.first l.initial.found.files in
    record {
      stand : All (Stands own) l.reports;
      added : l.found.found ++ map (report_view own) l.reports ≡ l.initial.found.found ++ map (report_view own) l.initial.reports;
      files : l.found.files ≡ l.initial.found.files;
    }

abbrev pub decreases-loop-reports : goal.decreases-loop-reports
decreases-loop-reports l = length l.reports
