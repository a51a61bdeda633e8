use Rattle.std.proofs.Common.{◌≡◌, ◌++◌, map, length}
use Rattle.finding_filters.specs.Baseline.{item_parts}
use Rattle.finding_filters.specs.Finding.{finding_parts}
use Rattle.filtered_findings.specs.Verdicts.{entries_of as entries_in}
use Rattle.filtered_findings.proofs.judged.entries_of.Given as goal

-- the entries that are left come next
abbrev pub invariant-loop-rest : goal.invariant-loop-rest
invariant-loop-rest l =
    map item_parts l.items.items ++ entries_in l.filters (map finding_parts l.rest) l.flags ≡ entries_in l.filters (map finding_parts l.findings) l.repeated

abbrev pub decreases-loop-rest : goal.decreases-loop-rest
decreases-loop-rest l = length l.rest
