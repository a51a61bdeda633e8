-- The advice of those so far, behind the reports before.
use Rattle.std.proofs.Common.{◌≡◌, ◌++◌, flat_map, map, take}
use Rattle.sarif.specs.Findings.{finding_view}
use Rattle.sarif.specs.Meaning.{aside}
use Rattle.sarif.specs.Views.{placed_view, reading_view}
use Rattle.sarif.proofs.reports.push_asides.Given as goal

abbrev pub invariant-loop-it : goal.invariant-loop-it
invariant-loop-it l = record {
  found : l.found.found ≡ l.initial.found.found ++ flat_map (aside (reading_view l.reading) (finding_view l.finding)) (map (placed_view l.known) (take l.it-index l.others));
  files : l.found.files ≡ l.initial.found.files;
}
