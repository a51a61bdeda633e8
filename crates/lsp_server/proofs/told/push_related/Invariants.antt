-- The values so far and those to come are all values.
use Rattle.std.proofs.Common.{◌≡◌, ◌++◌, drop, map}
use Rattle.serde_json.specs.View.{view}
use Rattle.lsp_server.specs.Diagnostics.{related_value}
use Rattle.lsp_server.specs.Files.{seen}
use Rattle.lsp_server.proofs.told.push_related.Given as goal

abbrev pub invariant-loop-label : goal.invariant-loop-label
invariant-loop-label l =
    map view l.values.items ++ map (related_value (seen l.file) l.message) (drop l.label-index l.labels)
    ≡ map view l.initial.values.items ++ map (related_value (seen l.file) l.message) l.labels
