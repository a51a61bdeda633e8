-- Those so far.
use Rattle.std.proofs.Common.{◌≡◌, map, take}
use Rattle.json.specs.Value.{value_view}
use Rattle.sarif_log.specs.Log.{artifact_view, artifacts_of}
use Rattle.sarif_log.proofs.read.artifacts.Given as goal

abbrev pub invariant-loop-value : goal.invariant-loop-value
invariant-loop-value l = map artifact_view l.found.items ≡ artifacts_of (map value_view (take l.value-index l.values))
