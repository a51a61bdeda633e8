use Rattle.std.proofs.Common.{◌≡◌, ◌++◌, map, drop}
use Rattle.finding_filters.specs.Baseline.{item_parts}
use Rattle.finding_filters.specs.Finding.{finding_parts}
use Rattle.filtered_findings.specs.Verdicts.{items_of as items_in}
use Rattle.filtered_findings.proofs.judged.items_of.Given as goal

-- the findings that are left come next
abbrev pub invariant-loop-finding : goal.invariant-loop-finding
invariant-loop-finding l =
    map item_parts l.items.items ++ items_in l.filters (map finding_parts (drop l.finding-index l.findings)) ≡ items_in l.filters (map finding_parts l.findings)
