use Rattle.std.proofs.Common.{map}
use Rattle.std.specs.Fn.{CalledAt}
use Rattle.oxc_protocol.specs.Reporters.{RendersAll, RendersFront}
use Rattle.oxc_protocol.proofs.reporter.DiagnosticReporter.render_errors_into.Given as goal

-- what the rest of the list will do, the whole list does from the start
abbrev pub invariant-loop-error : goal.invariant-loop-error
invariant-loop-error g l =
    (goal.iterator-loop-error g).can_next l.error-iterator
    × (goal.iterator-loop-error g).is_finite l.error-iterator
    × goal.F-IsAlwaysCallable g l.emit
    × ((t : _) (h : _) → RendersAll g.Self.DiagnosticReporter.renders (λ f text k. CalledAt g.F.FnMut f text tt k) l.self l.emit (map (λ b. (goal.Diagnostic-dyn g (b.vtable, b.value)).parts b.value) l.error-iterator.rest.items) t h
    → RendersAll g.Self.DiagnosticReporter.renders (λ f text k. CalledAt g.F.FnMut f text tt k) l.initial.self l.initial.emit (map (λ b. (goal.Diagnostic-dyn g (b.vtable, b.value)).parts b.value) l.fn.errors.items) t h)
    × ((h : _) → RendersFront g.Self.DiagnosticReporter.renders (λ f text k. CalledAt g.F.FnMut f text tt k) l.self l.emit (map (λ b. (goal.Diagnostic-dyn g (b.vtable, b.value)).parts b.value) l.error-iterator.rest.items) h
    → RendersFront g.Self.DiagnosticReporter.renders (λ f text k. CalledAt g.F.FnMut f text tt k) l.initial.self l.initial.emit (map (λ b. (goal.Diagnostic-dyn g (b.vtable, b.value)).parts b.value) l.fn.errors.items) h)
