-- The reports so far, and those that are left.
use Rattle.std.proofs.Common.{◌≡◌, ◌++◌, All, length, map, reverse}
use Rattle.found_reports.specs.Kept.{Stands, file_view, report_view}
use Rattle.found_reports.specs.Listed.{held_in}
use Rattle.indexed_sources.specs.Indexed.{AreTold}
use Rattle.json_forms.specs.Finding.{finding_view}
use Rattle.line_reports.specs.Gathered.{AreTexts, IsListed}
use Rattle.json_reports.specs.Reports.{report_of}
use Rattle.json_reports.proofs.gathered.reports_with.Given as goal

abbrev pub invariant-loop-report : goal.invariant-loop-report
invariant-loop-report l =
    let told = held_in l.sources.entries.items in
    let given = map file_view l.files.items in
    record {
      texts : AreTexts l.gathered.texts.items l.gathered.found.files;
      held : AreTold told l.gathered.found.files;
      listed : IsListed l.gathered.numbers l.gathered.found;
      sourced : AreTold told given;
      stand : All (Stands given) l.reports.items;
      found : l.gathered.found.found ++ map (report_view given) (reverse l.reports.items)
          ≡ map (report_of told) (map finding_view l.findings) ++ l.fn.more.found;
    }

abbrev pub decreases-loop-report : goal.decreases-loop-report
decreases-loop-report l = length l.reports.items
