-- Those so far.
use Rattle.std.proofs.Common.{◌≡◌, map, take, string_bytes}
use Rattle.json.specs.Value.{value_view}
use Rattle.sarif_log.specs.Log.{texts_of}
use Rattle.sarif_log.proofs.read.texts.Given as goal

abbrev pub invariant-loop-value : goal.invariant-loop-value
invariant-loop-value l = map string_bytes l.found.items ≡ texts_of (map value_view (take l.value-index l.values))
