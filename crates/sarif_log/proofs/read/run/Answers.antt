-- Each part is what its function says.
use Rattle.std.proofs.Common.{◌∙◌, ap, refl}
use Rattle.sarif_log.specs.Log.{log_results_of, invocations_of, run_of, run_view, tool_of}
use Rattle.sarif_log.proofs.read.run.Goals as goal

pub returns : goal.returns
unfolding run_of run_view
returns c =
    rw (
      c.in_ok-tool.ensures ∙ ap tool_of c.under.ensures,
      c.in_ok-counting.ensures,
      c.in_ok-names.ensures,
      c.in_ok-invocations.ensures ∙ ap invocations_of c.list_at.ensures,
      c.in_ok-log_results.ensures ∙ ap log_results_of c.list_at-2.ensures,
    ) refl
