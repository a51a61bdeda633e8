use Rattle.std.proofs.Common.{◌≡◌, ◌++◌, map, length}
use Rattle.indexed_sources.specs.Indexed.{AreTold}
use Rattle.found_reports.specs.Listed.{held_in}
use Rattle.line_reports.specs.Gathered.{AreTexts, IsListed, MarksAside, mark_parts}
use Rattle.line_reports.specs.Reports.{mark_reports}
use Rattle.line_reports.proofs.gathered.Gathered.push_marks.Given as goal

abbrev pub invariant-loop-marks : goal.invariant-loop-marks
invariant-loop-marks l =
    let told = held_in l.sources.entries.items in
    record {
      texts : AreTexts l.self.texts.items l.self.found.files;
      held : AreTold told l.self.found.files;
      listed : IsListed l.self.numbers l.self.found;
      asides : MarksAside told (map mark_parts l.marks);
      found : l.self.found.found ++ mark_reports l.columns told (map mark_parts l.marks) ≡ l.initial.self.found.found ++ mark_reports l.columns told (map mark_parts l.initial.marks);
    }

abbrev pub decreases-loop-marks : goal.decreases-loop-marks
decreases-loop-marks l = length l.marks
