use Rattle.std.proofs.Common.{◌≡◌, map, take}
use Rattle.ci_formats.specs.Finding.{finding_parts}
use Rattle.finding_summaries.specs.Names.{rule_of}
use Rattle.finding_summaries.proofs.ranking.ranked_rules.Given as goal

abbrev pub invariant-loop-finding : goal.invariant-loop-finding
invariant-loop-finding l = map (λ it. it.now) l.names.items ≡ map rule_of (map finding_parts (take l.finding-index l.findings))
