use Rattle.std.proofs.Common.{map, take}
use Rattle.ci_formats.specs.Finding.{finding_parts}
use Rattle.ci_formats.specs.Junit.{AreCasesByFile}
use Rattle.ci_formats.proofs.CountLemmas.{CasesCounted}
use Rattle.ci_formats.proofs.junit.cases_by_file.Given as goal

abbrev pub invariant-loop-finding : goal.invariant-loop-finding
invariant-loop-finding l = AreCasesByFile l.files (map finding_parts (take l.finding-index l.findings)) × CasesCounted l.counts (map finding_parts (take l.finding-index l.findings))
