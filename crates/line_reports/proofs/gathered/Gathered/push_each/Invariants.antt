use Rattle.std.proofs.Common.{◌≡◌, ◌++◌, map, length}
use Rattle.indexed_sources.specs.Indexed.{AreTold}
use Rattle.found_reports.specs.Listed.{held_in}
use Rattle.line_reports.specs.Gathered.{AreTexts, IsListed}
use Rattle.line_reports.specs.Reports.{each_alone}
use Rattle.line_reports.specs.Told.{told_parts}
use Rattle.line_reports.proofs.gathered.Gathered.push_each.Given as goal

abbrev pub invariant-loop-findings : goal.invariant-loop-findings
invariant-loop-findings l =
    let told = held_in l.sources.entries.items in
    record {
      texts : AreTexts l.self.texts.items l.self.found.files;
      held : AreTold told l.self.found.files;
      listed : IsListed l.self.numbers l.self.found;
      found : l.self.found.found ++ each_alone l.columns told (map told_parts l.findings) ≡ l.initial.self.found.found ++ each_alone l.columns told (map told_parts l.initial.findings);
    }

abbrev pub decreases-loop-findings : goal.decreases-loop-findings
decreases-loop-findings l = length l.findings
