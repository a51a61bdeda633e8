-- Those before are there; those left are still to come.
use Rattle.std.proofs.Common.{◌≡◌, ◌++◌, map, length}
use Rattle.indexed_sources.specs.Indexed.{AreTold}
use Rattle.found_reports.specs.Listed.{held_in}
use Rattle.json_forms.specs.Finding.{finding_view}
use Rattle.line_reports.specs.Gathered.{AreTexts, IsListed}
use Rattle.json_reports.specs.Reports.{report_of}
use Rattle.json_reports.proofs.gathered.Gathered.push_all.Given as goal

abbrev pub invariant-loop-findings : goal.invariant-loop-findings
invariant-loop-findings l =
    let told = held_in l.sources.entries.items in
    record {
      texts : AreTexts l.self.texts.items l.self.found.files;
      held : AreTold told l.self.found.files;
      listed : IsListed l.self.numbers l.self.found;
      found : l.self.found.found ++ map (report_of told) (map finding_view l.findings) ≡ l.initial.self.found.found ++ map (report_of told) (map finding_view l.initial.findings);
    }

abbrev pub decreases-loop-findings : goal.decreases-loop-findings
decreases-loop-findings l = length l.findings
