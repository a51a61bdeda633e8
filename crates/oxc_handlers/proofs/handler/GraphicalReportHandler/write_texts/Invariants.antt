use Rattle.std.proofs.Common.{◌≡◌, ◌++◌, All, drop, map, string_bytes, take}
use Rattle.std.specs.List.{flat_map}
use Rattle.oxc_handlers.specs.Refusals.{IsFaultless}
use Rattle.oxc_handlers.specs.Reports.{text_of}
use Rattle.oxc_handlers.specs.Scanners.{ReadsRoundIfThere}
use Rattle.oxc_handlers.proofs.handler.GraphicalReportHandler.write_texts.Given as goal

-- the diagnostics so far could be drawn, and the texts of the others are still to come
abbrev pub invariant-loop-diagnostic : goal.invariant-loop-diagnostic
invariant-loop-diagnostic g l =
    record {
      report : l.report ≡ l.diagnostic-index;
      round : ReadsRoundIfThere l.scanner;
      before : All IsFaultless (take l.diagnostic-index (map (λ b. (goal.Diagnostic-dyn g (b.vtable, b.value)).parts b.value) l.diagnostics));
      ahead : string_bytes l.out ++ flat_map (text_of l.self) (map (λ b. (goal.Diagnostic-dyn g (b.vtable, b.value)).parts b.value) (drop l.diagnostic-index l.diagnostics))
          ≡ string_bytes l.initial.out ++ flat_map (text_of l.self) (map (λ b. (goal.Diagnostic-dyn g (b.vtable, b.value)).parts b.value) l.diagnostics);
    }
