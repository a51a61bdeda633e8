use Rattle.std.proofs.Common.{◌∙◌, sym, Some, None}
use Rattle.oxc_plan.proofs.PlanLemmas.{head_found}
use Rattle.oxc_plan.proofs.heads.head_label.Goals as goal

pub returns-in-Some : goal.returns-in-Some
returns-in-Some c = head_found c.args.labels.now c.args.group.now (Some c.in-Some.label) (sym c.in-Some.is ∙ c.first_primary.ensures)

pub returns-in-None : goal.returns-in-None
returns-in-None c = c.ordered_at.ensures ∙ head_found c.args.labels.now c.args.group.now None (sym c.in-None.is ∙ c.first_primary.ensures)
