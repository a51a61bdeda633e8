-- The reports of the runs so far.
use Rattle.std.proofs.Common.{◌≡◌, flat_map, map, take}
use Rattle.sarif_log.specs.Log.{run_view}
use Rattle.sarif.specs.Meaning.{run_reports}
use Rattle.sarif.proofs.reports.reports_of.Given as goal

abbrev pub invariant-loop-run : goal.invariant-loop-run
invariant-loop-run g l = l.found.found ≡ flat_map (run_reports (g.S.Sources.told l.sources) l.columns) (map run_view (take l.run-index l.log.runs.items))
