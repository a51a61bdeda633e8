use Rattle.std.proofs.Common.{◌≡◌, ◌++◌, map, drop}
use Rattle.finding_filters.specs.Finding.{finding_parts}
use Rattle.filtered_findings.specs.Repeats.{none_seen, repeats_from, seen_in}
use Rattle.filtered_findings.proofs.repeats.repeats.Given as goal

-- the findings that are left come next
abbrev pub invariant-loop-finding : goal.invariant-loop-finding
invariant-loop-finding l =
    l.flags.items ++ repeats_from (seen_in l.earlier.texts) (map finding_parts (drop l.finding-index l.findings)) ≡ repeats_from none_seen (map finding_parts l.findings)
