-- The values so far and those to come are all values.
use Rattle.std.proofs.Common.{◌≡◌, ◌++◌, drop, map}
use Rattle.serde_json.specs.View.{view}
use Rattle.lsp_server.specs.Diagnostics.{diagnostic_value}
use Rattle.lsp_server.specs.Files.{seen}
use Rattle.lsp_server.proofs.told.diagnostics_value.Given as goal

abbrev pub invariant-loop-diagnostic : goal.invariant-loop-diagnostic
invariant-loop-diagnostic l =
    map view l.values.items ++ map (diagnostic_value (seen l.file)) (drop l.diagnostic-index l.diagnostics) ≡ map (diagnostic_value (seen l.file)) l.diagnostics
