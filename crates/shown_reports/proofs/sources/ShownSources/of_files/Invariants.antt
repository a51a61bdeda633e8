-- The files before are sources.
use Rattle.std.proofs.Common.{◌≡◌, map, take}
use Rattle.found_reports.specs.Kept.{file_view}
use Rattle.found_reports.specs.Listed.{held_by}
use Rattle.shown_reports.proofs.sources.ShownSources.of_files.Given as goal

abbrev pub invariant-loop-file : goal.invariant-loop-file
invariant-loop-file l = map held_by l.sources.entries.items ≡ map (λ file. file.held) (map file_view (take l.file-index l.files))
