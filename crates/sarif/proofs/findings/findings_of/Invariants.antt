-- What the tool says of its calls so far; and behind all of that, the results so far.
use Rattle.std.proofs.Common.{◌≡◌, ◌++◌, filter, flat_map, map, take}
use Rattle.sarif_log.specs.Log.{invocation_view, log_result_view, run_view}
use Rattle.sarif.specs.Findings.{driver_strings, finding_view, found_in, is_finding, noted_in}
use Rattle.sarif.proofs.findings.findings_of.Given as goal

abbrev pub invariant-loop-invocation : goal.invariant-loop-invocation
invariant-loop-invocation l = map finding_view l.found.items ≡ flat_map (noted_in (driver_strings (run_view l.run))) (map invocation_view (take l.invocation-index l.run.invocations.items))

abbrev pub invariant-loop-it : goal.invariant-loop-it
invariant-loop-it l = map finding_view l.found.items ≡ flat_map (noted_in (driver_strings (run_view l.run))) (map invocation_view l.run.invocations.items) ++ map (found_in (run_view l.run)) (filter is_finding (map log_result_view (take l.it-index l.run.results.items)))
