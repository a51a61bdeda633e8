use Rattle.std.proofs.Common.{◌≡◌, All, map, take}
use Rattle.oxc_handlers.specs.Refusals.{IsFaultless}
use Rattle.oxc_handlers.specs.Scanners.{ReadsRoundIfThere}
use Rattle.oxc_handlers.proofs.reports.judge_all.Given as goal

-- the diagnostics so far can be drawn
abbrev pub invariant-loop-diagnostic : goal.invariant-loop-diagnostic
invariant-loop-diagnostic g l =
    record {
      report : l.report ≡ l.diagnostic-index;
      round : ReadsRoundIfThere l.scanner;
      before : All IsFaultless (take l.diagnostic-index (map (λ b. (goal.Diagnostic-dyn g (b.vtable, b.value)).parts b.value) l.diagnostics));
    }
