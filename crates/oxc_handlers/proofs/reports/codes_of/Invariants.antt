use Rattle.std.proofs.Common.{◌≡◌, ◌++◌, drop, map}
use Rattle.oxc_span.specs.Views.{text_bytes}
use Rattle.oxc_handlers.proofs.reports.codes_of.Given as goal

-- the codes so far and those that are still to come
abbrev pub invariant-loop-diagnostic : goal.invariant-loop-diagnostic
invariant-loop-diagnostic g l =
    map text_bytes l.codes.items ++ map (λ b. ((goal.Diagnostic-dyn g (b.vtable, b.value)).parts b.value).code) (drop l.diagnostic-index l.diagnostics)
    ≡ map (λ b. ((goal.Diagnostic-dyn g (b.vtable, b.value)).parts b.value).code) l.diagnostics
