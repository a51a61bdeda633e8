use Rattle.std.proofs.Common.{◌≡◌, map}
use Rattle.serde_json.specs.View.{view}
use Rattle.documents.specs.Generated.{reports_value}
use Rattle.documents.proofs.generated.generated_reports.Given as goal

abbrev pub invariant-loop-place : goal.invariant-loop-place
invariant-loop-place l = map view l.reports.items ≡ reports_value l.place
