use Rattle.std.proofs.Common.{map}
use Rattle.oxc_protocol.specs.Reporters.{KeepsFront, KeptAt, RendersUntil}
use Rattle.oxc_protocol.proofs.reporter.DiagnosticReporter.render_errors_until_into.Given as goal

-- what the rest of the list will do, the whole list does from the start
abbrev pub invariant-loop-error : goal.invariant-loop-error
invariant-loop-error g l =
    (goal.iterator-loop-error g).can_next l.error-iterator
    × (goal.iterator-loop-error g).is_finite l.error-iterator
    × goal.F-IsAlwaysCallable g l.keep
    × ((t : _) (h : _) → RendersUntil g.Self.DiagnosticReporter.renders (KeptAt (goal.F-step g)) l.self l.keep (map (λ b. (goal.Diagnostic-dyn g (b.vtable, b.value)).parts b.value) l.error-iterator.rest.items) t h
    → RendersUntil g.Self.DiagnosticReporter.renders (KeptAt (goal.F-step g)) l.initial.self l.initial.keep (map (λ b. (goal.Diagnostic-dyn g (b.vtable, b.value)).parts b.value) l.fn.errors.items) t h)
    × ((h : _) → KeepsFront g.Self.DiagnosticReporter.renders (KeptAt (goal.F-step g)) l.self l.keep (map (λ b. (goal.Diagnostic-dyn g (b.vtable, b.value)).parts b.value) l.error-iterator.rest.items) h
    → KeepsFront g.Self.DiagnosticReporter.renders (KeptAt (goal.F-step g)) l.initial.self l.initial.keep (map (λ b. (goal.Diagnostic-dyn g (b.vtable, b.value)).parts b.value) l.fn.errors.items) h)
