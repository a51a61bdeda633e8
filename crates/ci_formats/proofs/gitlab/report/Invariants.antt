use Rattle.std.proofs.Common.{◌≡◌, [], map, take}
use Rattle.serde_json.specs.View.{view}
use Rattle.ci_formats.specs.Finding.{finding_parts}
use Rattle.ci_formats.specs.Files.{along}
use Rattle.ci_formats.specs.Gitlab.{one_issue}
use Rattle.ci_formats.proofs.CountLemmas.{IssuesCounted}
use Rattle.ci_formats.proofs.gitlab.report.Given as goal

abbrev pub invariant-loop-finding : goal.invariant-loop-finding
invariant-loop-finding l =
    (map view l.issues.items ≡ along (one_issue l.usual) [] (map finding_parts (take l.finding-index l.findings))) × IssuesCounted l.counts (map finding_parts (take l.finding-index l.findings))
