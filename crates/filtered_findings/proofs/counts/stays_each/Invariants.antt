use Rattle.std.proofs.Common.{◌≡◌, ◌++◌, map, length}
use Rattle.finding_filters.specs.Finding.{finding_parts}
use Rattle.filtered_findings.specs.Counts.{flags_of}
use Rattle.filtered_findings.proofs.counts.stays_each.Given as goal

-- the findings that are left come next
abbrev pub invariant-loop-rest : goal.invariant-loop-rest
invariant-loop-rest l = l.flags.items ++ flags_of (map finding_parts l.rest) l.each ≡ flags_of (map finding_parts l.findings) l.verdicts.each.items

abbrev pub decreases-loop-rest : goal.decreases-loop-rest
decreases-loop-rest l = length l.rest
