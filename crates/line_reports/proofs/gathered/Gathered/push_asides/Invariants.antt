use Rattle.std.proofs.Common.{◌≡◌, ◌++◌, map, option_map, length}
use Rattle.indexed_sources.specs.Indexed.{AreTold}
use Rattle.found_reports.specs.Listed.{held_in}
use Rattle.line_reports.specs.Asides.{AsidesStand, aside_parts}
use Rattle.line_reports.specs.Gathered.{AreTexts, IsListed}
use Rattle.line_reports.specs.Reports.{aside_reports}
use Rattle.line_reports.specs.Told.{told_parts}
use Rattle.line_reports.proofs.gathered.Gathered.push_asides.Given as goal

abbrev pub invariant-loop-asides : goal.invariant-loop-asides
invariant-loop-asides l =
    let told = held_in l.sources.entries.items in
    record {
      texts : AreTexts l.self.texts.items l.self.found.files;
      held : AreTold told l.self.found.files;
      listed : IsListed l.self.numbers l.self.found;
      asides : AsidesStand told (map (option_map aside_parts) l.asides);
      found : l.self.found.found ++ aside_reports told (told_parts l.told) (map (option_map aside_parts) l.asides) ≡ l.initial.self.found.found ++ aside_reports told (told_parts l.told) (map (option_map aside_parts) l.initial.asides);
    }

abbrev pub decreases-loop-asides : goal.decreases-loop-asides
decreases-loop-asides l = length l.asides
