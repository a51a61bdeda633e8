use Rattle.std.proofs.Common.{◌≡◌, IfOk, ap, string_bytes, subst, ◌∙◌}
use Rattle.oxc_handlers.specs.Handler.{Handler}
use Rattle.oxc_handlers.specs.Report.{drawn, plan_of, view_parts}
use Rattle.oxc_handlers.proofs.ReportsLemmas.{cause_of_view, text_of_view}
use Rattle.oxc_handlers.proofs.plain.render_source.Goals as goal

pub returns-clause-text : goal.returns-clause-text
returns-clause-text c =
    subst (λ text. IfOk c.render_view.result (λ t. string_bytes t ≡ text))
    (ap (λ (h : Handler). drawn h.theme h.width (plan_of h.tab (view_parts c.view_with-view.result))) c.plain_handler.ensures ∙ text_of_view _ _ _ c.view_with-view.ensures) c.render_view.ensures.text

pub returns-clause-cause : goal.returns-clause-cause
returns-clause-cause c = cause_of_view c.render_view.result _ _ c.view_with-view.ensures c.render_view.ensures.cause
