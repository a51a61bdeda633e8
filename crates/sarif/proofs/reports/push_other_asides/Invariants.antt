-- The advice of those so far that are in no other file, behind the reports before.
use Rattle.std.proofs.Common.{◌≡◌, ◌++◌, filter, flat_map, map, not, take}
use Rattle.sarif.specs.Findings.{finding_view}
use Rattle.sarif.specs.Labels.{is_beside}
use Rattle.sarif.specs.Meaning.{aside}
use Rattle.sarif.specs.Views.{known_view, placed_view, reading_view}
use Rattle.sarif.proofs.reports.push_other_asides.Given as goal

abbrev pub invariant-loop-it : goal.invariant-loop-it
invariant-loop-it l = record {
  found : l.found.found ≡ l.initial.found.found ++ flat_map (aside (reading_view l.reading) (finding_view l.finding)) (filter (λ it. not (is_beside (reading_view l.reading) (known_view l.file) it)) (map (placed_view l.known) (take l.it-index l.others)));
  files : l.found.files ≡ l.initial.found.files;
}
