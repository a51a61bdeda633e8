-- The files before are copied, and the others come next.
use Rattle.std.proofs.Common.{◌≡◌, ◌++◌, map, length}
use Rattle.found_reports.specs.Kept.{file_view}
use Rattle.girzohal_run.specs.Owned.{source_view}
use Rattle.girzohal_run.proofs.owned.copied.Given as goal

abbrev pub invariant-loop-files : goal.invariant-loop-files
invariant-loop-files l = map source_view l.copies.items ++ map file_view l.files ≡ map file_view l.initial.files

abbrev pub decreases-loop-files : goal.decreases-loop-files
decreases-loop-files l = length l.files
