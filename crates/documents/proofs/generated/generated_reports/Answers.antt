use Rattle.std.proofs.Common.{[], ◌∷◌, ◌++◌, ap₂, ◌∙◌, sym}
use Rattle.std.proofs.lemmas.List.{map_push}
use Rattle.serde_json.specs.View.{view}
use Rattle.documents.proofs.GeneratedLemmas.{reports_more}
use Rattle.documents.proofs.generated.generated_reports.Goals as goal

pub loop-place-preserved : goal.loop-place-preserved
loop-place-preserved c =
    rw c.in_ok-push.ensures.items
    (map_push view c.loop-place.reports.items c.in_ok-generated_report.field-0
    ∙ ap₂ (λ reports report. reports ++ report ∷ []) c.loop-place.invariant c.in_ok-generated_report.ensures
    ∙ sym (reports_more c.loop-place.place))
