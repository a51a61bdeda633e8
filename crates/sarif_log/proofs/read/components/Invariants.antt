-- Those so far.
use Rattle.std.proofs.Common.{◌≡◌, map, take}
use Rattle.json.specs.Value.{value_view}
use Rattle.sarif_log.specs.Log.{component_view, components_of}
use Rattle.sarif_log.proofs.read.components.Given as goal

abbrev pub invariant-loop-value : goal.invariant-loop-value
invariant-loop-value l = map component_view l.found.items ≡ components_of (map value_view (take l.value-index l.values))
