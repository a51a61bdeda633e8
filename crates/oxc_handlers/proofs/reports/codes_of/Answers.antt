use Rattle.std.proofs.Common.{◌∙◌}
use Rattle.oxc_span.specs.Views.{text_bytes}
use Rattle.oxc_handlers.proofs.ReportsLemmas.{codes_more}
use Rattle.oxc_handlers.proofs.reports.codes_of.Goals as goal

pub loop-diagnostic-preserved : goal.loop-diagnostic-preserved
loop-diagnostic-preserved g c =
    codes_more text_bytes (λ b. ((goal.Diagnostic-dyn g (b.vtable, b.value)).parts b.value).code) c.push.new.self.items c.loop-diagnostic.codes.items c.args.diagnostics.now c.loop-diagnostic.diagnostic-index c.in_ok-code_of.field-0
    c.diagnostic-item.result c.in_ok-push.ensures.items c.in_ok-code_of.ensures c.loop-diagnostic-test.true c.diagnostic-item.is
    ∙ c.loop-diagnostic.invariant
