use Rattle.std.proofs.Common.{◌≡◌, IfOk, string_bytes, subst}
use Rattle.oxc_handlers.proofs.ReportsLemmas.{cause_of_view, text_of_view}
use Rattle.diagnostics.proofs.draw.draw_coded.Goals as goal

pub returns-clause-text : goal.returns-clause-text
returns-clause-text c =
    subst (λ text. IfOk c.render_view.result (λ t. string_bytes t ≡ text)) (text_of_view c.args.handler.now _ _ c.view_on-view.ensures) c.render_view.ensures.text

pub returns-clause-cause : goal.returns-clause-cause
returns-clause-cause c = cause_of_view c.render_view.result _ _ c.view_on-view.ensures c.render_view.ensures.cause
