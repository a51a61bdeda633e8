use Rattle.std.proofs.Common.{map, take}
use Rattle.ci_formats.specs.Finding.{finding_parts}
use Rattle.ci_formats.specs.Files.{AreByFile}
use Rattle.ci_formats.proofs.files.by_file.Given as goal

abbrev pub invariant-loop-finding : goal.invariant-loop-finding
invariant-loop-finding l = AreByFile l.files (map finding_parts (take l.finding-index l.findings))
