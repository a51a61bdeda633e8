-- Those so far.
use Rattle.std.proofs.Common.{◌≡◌, [], None, map, take}
use Rattle.serde_json.specs.View.{view}
use Rattle.found_reports.specs.Fixes.{fix_view}
use Rattle.render_files.specs.Given.{given_report}
use Rattle.sarif_writing.specs.Written.{map_between, placed_value}
use Rattle.sarif_writing.proofs.results.results_of.Given as goal

abbrev pub invariant-loop-at : goal.invariant-loop-at
invariant-loop-at l =
    map view l.values.items
    ≡ map_between (placed_value l.files (map view l.rules.values.items)) None [] l.places (map (λ own. map fix_view own.now) l.fixes) (map given_report (take l.at l.reports))
