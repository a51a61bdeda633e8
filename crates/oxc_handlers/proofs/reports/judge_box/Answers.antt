use Rattle.oxc_handlers.proofs.ReportsLemmas.{cause_of_view}
use Rattle.oxc_handlers.proofs.reports.judge_box.Goals as goal

pub returns-clause-cause : goal.returns-clause-cause
returns-clause-cause g c = cause_of_view c.judge.result _ _ c.view_of_box-view.ensures c.judge.ensures.cause
