use Rattle.std.proofs.Common.{◌≡◌, ◌≤◌, take}
use Rattle.std.specs.List.{count_by}
use Rattle.filtered_findings.specs.Counts.{is_verdict}
use Rattle.filtered_findings.proofs.counts.count.Given as goal

-- the verdicts before are counted
abbrev pub invariant-loop-verdict : goal.invariant-loop-verdict
invariant-loop-verdict l = (l.count ≡ count_by (λ it. is_verdict l.wanted it) (take l.verdict-index l.each)) × (l.count ≤ l.verdict-index)
