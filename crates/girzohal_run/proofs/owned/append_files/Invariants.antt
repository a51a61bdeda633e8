-- The files before are appended, and the others come next.
use Rattle.std.proofs.Common.{◌≡◌, ◌++◌, All, map, length}
use Rattle.found_reports.specs.Kept.{IsShort}
use Rattle.girzohal_run.specs.Owned.{source_view}
use Rattle.girzohal_run.proofs.owned.append_files.Given as goal

abbrev pub invariant-loop-files : goal.invariant-loop-files
invariant-loop-files l = record {
  short : All IsShort (map source_view l.files);
  files : l.found.files ++ map source_view l.files ≡ l.initial.found.files ++ map source_view l.initial.files;
  found : l.found.found ≡ l.initial.found.found;
}

abbrev pub decreases-loop-files : goal.decreases-loop-files
decreases-loop-files l = length l.files
