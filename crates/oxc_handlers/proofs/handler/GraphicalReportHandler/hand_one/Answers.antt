use Rattle.std.proofs.Common.{◌∙◌, subst}
use Rattle.oxc_handlers.proofs.ReportsLemmas.{text_of_view}
use Rattle.oxc_handlers.proofs.handler.GraphicalReportHandler.hand_one.Goals as goal

pub returns-in-Ok-clause-handed : goal.returns-in-Ok-clause-handed
returns-in-Ok-clause-handed g c =
    subst (λ text. g.K.Keep.keeps c.args.keep.now ((goal.Diagnostic-dyn g (c.args.diagnostic.now.vtable, c.args.diagnostic.now.value)).parts c.args.diagnostic.now.value) text c.ask.result c.ask.new.keep)
    (c.as_str.ensures.value ∙ c.in-Ok.ensures.text ∙ text_of_view c.args.self.now _ _ c.view_of_box-view.ensures) c.ask.ensures
