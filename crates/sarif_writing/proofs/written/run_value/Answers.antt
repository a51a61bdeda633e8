-- The reports stand in their files, and the run is made of its parts.
use Rattle.std.proofs.Common.{map}
use Rattle.serde_json.specs.View.{view}
use Rattle.found_reports.specs.Fixes.{fix_view}
use Rattle.render_files.specs.Given.{given_report}
use Rattle.sarif_writing.proofs.ListLemmas.{run_is}
use Rattle.sarif_writing.proofs.StandingLemmas.{all_stand}
use Rattle.sarif_writing.proofs.written.run_value.Goals as goal

pub results_of-requires-clause-stand : goal.results_of-requires-clause-stand
results_of-requires-clause-stand c = all_stand c.args.files.now (map given_report c.args.reports.now) c.in_ok-spans.ensures.cause

pub returns-clause-value : goal.returns-clause-value
returns-clause-value c =
    run_is c.args.tool.now c.args.files.now c.args.unread.now (map given_report c.args.reports.now) c.args.places.now (map (λ own. map fix_view own.now) c.args.fixes.now)
    c.in_ok-artifacts.artifacts c.in_ok-results.results c.in_ok-rules.rules.values
    (view c.in_ok-driver.driver) (view c.in_ok-body.body) c.in_ok-body.ensures c.in_ok-artifacts.ensures c.in_ok-results.ensures c.in_ok-driver.ensures c.in_ok-rules.ensures.rules
