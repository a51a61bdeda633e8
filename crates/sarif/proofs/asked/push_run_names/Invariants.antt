-- The names in what the tool says of its calls so far; and behind all of these, those of the results so far.
use Rattle.std.proofs.Common.{◌≡◌, ◌++◌, flat_map, map, string_bytes, take}
use Rattle.sarif_log.specs.Log.{invocation_view, log_result_view, names_view}
use Rattle.sarif.specs.Asked.{invocation_names, result_names}
use Rattle.sarif.proofs.asked.push_run_names.Given as goal

abbrev pub invariant-loop-invocation : goal.invariant-loop-invocation
invariant-loop-invocation l = map string_bytes l.names.items ≡ map string_bytes l.initial.names.items ++ flat_map (invocation_names (names_view l.run.names)) (map invocation_view (take l.invocation-index l.run.invocations.items))

abbrev pub invariant-loop-it : goal.invariant-loop-it
invariant-loop-it l = map string_bytes l.names.items ≡ (map string_bytes l.fn.names.items ++ flat_map (invocation_names (names_view l.run.names)) (map invocation_view l.run.invocations.items)) ++ flat_map (result_names (names_view l.run.names)) (map log_result_view (take l.it-index l.run.results.items))
