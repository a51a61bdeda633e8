-- Those so far.
use Rattle.std.proofs.Common.{◌≡◌, false, map, take}
use Rattle.serde_json.specs.View.{view}
use Rattle.sarif_writing.specs.Written.{file_value, map_beside}
use Rattle.sarif_writing.proofs.written.artifacts_of.Given as goal

abbrev pub invariant-loop-index : goal.invariant-loop-index
invariant-loop-index l = map view l.values.items ≡ map_beside file_value false l.unread (take l.index l.files)
