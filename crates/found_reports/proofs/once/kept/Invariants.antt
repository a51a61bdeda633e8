-- The reports so far, and those that are left.
use Rattle.std.proofs.Common.{◌≡◌, ◌++◌, All, length, map, reverse}
use Rattle.found_reports.specs.Files.{files_of}
use Rattle.found_reports.specs.Kept.{Stands, file_view, report_view}
use Rattle.found_reports.specs.Flagged.{kept_of}
use Rattle.found_reports.specs.Once.{KeepsFiles}
use Rattle.found_reports.proofs.once.kept.Given as goal

abbrev pub invariant-loop-report : goal.invariant-loop-report
invariant-loop-report l =
    let given = map file_view l.files.items in
    record {
      keeps : KeepsFiles given l.once;
      files : l.once.found.files ≡ files_of l.once.found.found;
      stand : All (Stands given) l.reports.items;
      found : l.once.found.found ++ kept_of l.rest (map (report_view given) (reverse l.reports.items)) ≡ kept_of l.flags l.fn.found.found;
    }

abbrev pub decreases-loop-report : goal.decreases-loop-report
decreases-loop-report l = length l.reports.items
