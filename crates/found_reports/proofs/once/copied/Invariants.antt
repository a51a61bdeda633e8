-- The files so far.
use Rattle.std.proofs.Common.{◌≡◌, map, take}
use Rattle.found_reports.specs.Kept.{file_view}
use Rattle.found_reports.proofs.once.copied.Given as goal

abbrev pub invariant-loop-file : goal.invariant-loop-file
invariant-loop-file l = map file_view l.copies.items ≡ map file_view (take l.file-index l.files)
