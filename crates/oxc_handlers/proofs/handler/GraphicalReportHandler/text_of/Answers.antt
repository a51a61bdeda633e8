use Rattle.std.proofs.Common.{◌≡◌, IfOk, string_bytes, subst}
use Rattle.oxc_handlers.proofs.ReportsLemmas.{cause_of_view, text_of_view}
use Rattle.oxc_handlers.proofs.handler.GraphicalReportHandler.text_of.Goals as goal

pub returns-clause-text : goal.returns-clause-text
returns-clause-text g c =
    subst (λ drawn. IfOk c.render_view.result (λ text. string_bytes text ≡ drawn)) (text_of_view c.args.self.now _ _ c.of-view.ensures) c.render_view.ensures.text

pub returns-clause-cause : goal.returns-clause-cause
returns-clause-cause g c = cause_of_view c.render_view.result _ _ c.of-view.ensures c.render_view.ensures.cause
