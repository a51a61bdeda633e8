use Rattle.std.proofs.Common.{◌≡◌, ◌++◌, map, length}
use Rattle.finding_filters.specs.Finding.{finding_parts}
use Rattle.filtered_findings.specs.Repeats.{no_repeats as none_repeated}
use Rattle.filtered_findings.proofs.judged.no_repeats.Given as goal

-- the findings that are left come next
abbrev pub invariant-loop-rest : goal.invariant-loop-rest
invariant-loop-rest l = l.flags.items ++ none_repeated (map finding_parts l.rest) ≡ none_repeated (map finding_parts l.findings)

abbrev pub decreases-loop-rest : goal.decreases-loop-rest
decreases-loop-rest l = length l.rest
