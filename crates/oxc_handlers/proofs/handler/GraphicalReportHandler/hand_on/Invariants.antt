use Rattle.std.proofs.Common.{◌≡◌, ℕ, ◌+◌, drop, map}
use Rattle.oxc_handlers.specs.Keeping.{KeepsPart, KeepsUntil}
use Rattle.oxc_handlers.specs.Scanners.{ReadsRoundIfThere}
use Rattle.oxc_handlers.proofs.handler.GraphicalReportHandler.hand_on.Given as goal

-- what is handed on from here belongs to a run over all diagnostics
abbrev pub invariant-loop-diagnostic : goal.invariant-loop-diagnostic
invariant-loop-diagnostic g l =
    (l.count ≡ l.diagnostic-index)
    × ReadsRoundIfThere l.scanner
    × ((n : ℕ) (k : _) → KeepsUntil g.K.Keep.keeps l.self l.keep (map (λ b. (goal.Diagnostic-dyn g (b.vtable, b.value)).parts b.value) (drop l.diagnostic-index l.diagnostics)) n k
    → KeepsUntil g.K.Keep.keeps l.self l.initial.keep (map (λ b. (goal.Diagnostic-dyn g (b.vtable, b.value)).parts b.value) l.diagnostics) (l.count + n) k)
    × ((k : _) → KeepsPart g.K.Keep.keeps l.self l.keep (map (λ b. (goal.Diagnostic-dyn g (b.vtable, b.value)).parts b.value) (drop l.diagnostic-index l.diagnostics)) k
    → KeepsPart g.K.Keep.keeps l.self l.initial.keep (map (λ b. (goal.Diagnostic-dyn g (b.vtable, b.value)).parts b.value) l.diagnostics) k)
