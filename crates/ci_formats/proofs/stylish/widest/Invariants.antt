use Rattle.std.proofs.Common.{◌≡◌, map, take}
use Rattle.ci_formats.specs.Finding.{finding_parts}
use Rattle.ci_formats.specs.Stylish.{widest}
use Rattle.ci_formats.proofs.stylish.widest.Given as goal

abbrev pub invariant-loop-finding : goal.invariant-loop-finding
invariant-loop-finding l = l.most ≡ widest l.measure (map (λ it. finding_parts it.now) (take l.finding-index l.findings))
