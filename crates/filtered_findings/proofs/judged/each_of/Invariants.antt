use Rattle.std.proofs.Common.{◌≡◌, ◌++◌, map, length}
use Rattle.finding_filters.specs.Finding.{finding_parts}
use Rattle.filtered_findings.specs.Verdicts.{verdicts_from}
use Rattle.filtered_findings.proofs.judged.each_of.Given as goal

-- the findings that are left come next
abbrev pub invariant-loop-rest : goal.invariant-loop-rest
invariant-loop-rest l =
    l.each.items ++ verdicts_from l.filters (map finding_parts l.rest) l.twice l.taken ≡ verdicts_from l.filters (map finding_parts l.findings) l.fn.twice l.fn.taken

abbrev pub decreases-loop-rest : goal.decreases-loop-rest
decreases-loop-rest l = length l.rest
