use Rattle.std.proofs.Common.{◌≡◌, map, take}
use Rattle.found_reports.specs.Kept.{file_view}
use Rattle.ci_formats.specs.Finding.{index_in}
use Rattle.ci_formats.proofs.located.indexes_of.Given as goal

abbrev pub invariant-loop-file : goal.invariant-loop-file
invariant-loop-file l = l.indexes.items ≡ map index_in (map file_view (take l.file-index l.files))
