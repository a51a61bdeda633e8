use Rattle.std.proofs.Common.{◌≡◌, map, drop}
use Rattle.ci_formats.specs.Finding.{finding_parts}
use Rattle.ci_formats.specs.Files.{Knows, names_of}
use Rattle.ci_formats.proofs.FilesLemmas.{gathered, now_of}
use Rattle.ci_formats.proofs.files.names_of.Given as goal

abbrev pub invariant-loop-finding : goal.invariant-loop-finding
invariant-loop-finding l =
    (gathered (map now_of l.names.items) (map finding_parts (drop l.finding-index l.findings)) ≡ names_of (map finding_parts l.findings)) × Knows l.known (map now_of l.names.items)
