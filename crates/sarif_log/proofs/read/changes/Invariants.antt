-- Those so far.
use Rattle.std.proofs.Common.{◌≡◌, map, take}
use Rattle.json.specs.Value.{value_view}
use Rattle.sarif_log.specs.Log.{change_view, changes_of}
use Rattle.sarif_log.proofs.read.changes.Given as goal

abbrev pub invariant-loop-value : goal.invariant-loop-value
invariant-loop-value l = map change_view l.found.items ≡ changes_of (map value_view (take l.value-index l.values))
