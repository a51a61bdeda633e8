-- The names of the runs so far.
use Rattle.std.proofs.Common.{◌≡◌, flat_map, map, string_bytes, take}
use Rattle.sarif_log.specs.Log.{run_view}
use Rattle.sarif.specs.Asked.{run_names}
use Rattle.sarif.proofs.asked.names_of.Given as goal

abbrev pub invariant-loop-run : goal.invariant-loop-run
invariant-loop-run l = map string_bytes l.names.items ≡ flat_map run_names (map run_view (take l.run-index l.run-items))
