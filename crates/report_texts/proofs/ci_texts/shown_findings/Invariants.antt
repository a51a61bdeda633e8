-- The findings before are there, and the others come next.
use Rattle.std.proofs.Common.{◌≡◌, ◌++◌, drop, map}
use Rattle.ci_formats.specs.Finding.{finding_parts}
use Rattle.report_texts.specs.CiTexts.{shown_finding}
use Rattle.report_texts.proofs.ci_texts.shown_findings.Given as goal

abbrev pub invariant-loop-finding : goal.invariant-loop-finding
invariant-loop-finding l =
    map finding_parts l.shown.items ++ map (shown_finding l.raw) (map finding_parts (drop l.finding-index l.findings))
    ≡ map (shown_finding l.raw) (map finding_parts l.findings)
