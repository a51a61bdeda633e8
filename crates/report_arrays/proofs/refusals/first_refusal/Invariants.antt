-- No report so far is refused.
use Rattle.std.proofs.Common.{◌≡◌, drop, map}
use Rattle.render_files.specs.Refusal.{first_at, refusal_in}
use Rattle.report_arrays.specs.Values.{report}
use Rattle.report_arrays.proofs.refusals.first_refusal.Given as goal

abbrev pub invariant-loop-place : goal.invariant-loop-place
invariant-loop-place l =
    first_at (refusal_in l.sources) l.place (map (report l.texts l.labels) (drop l.place l.reports))
    ≡ first_at (refusal_in l.sources) 0 (map (report l.texts l.labels) l.reports)
