-- Those so far.
use Rattle.std.proofs.Common.{◌≡◌, map, take}
use Rattle.json.specs.Value.{value_view}
use Rattle.sarif_log.specs.Log.{log_result_view, log_results_of}
use Rattle.sarif_log.proofs.read.log_results.Given as goal

abbrev pub invariant-loop-value : goal.invariant-loop-value
invariant-loop-value l = map log_result_view l.found.items ≡ log_results_of (map value_view (take l.value-index l.values))
