-- The labels that were placed and those of the reports to come are all labels, and no report so far is refused.
use Rattle.std.proofs.Common.{◌≡◌, ◌++◌, drop, map}
use Rattle.render_files.specs.Given.{given_report}
use Rattle.render_files.specs.Refusal.{first_at, refusal_in}
use Rattle.render_files.specs.Shown.{placed_labels}
use Rattle.render_files.proofs.judge.place_labels.Given as goal

abbrev pub invariant-loop-place : goal.invariant-loop-place
invariant-loop-place l = record {
  known : l.offsets ≡ l.files;
  placed : map (λ labels. labels.items) l.spans.items ++ map (placed_labels l.files) (map given_report (drop l.place l.reports))
      ≡ map (placed_labels l.files) (map given_report l.reports);
  refusal : first_at (refusal_in l.files) l.place (map given_report (drop l.place l.reports))
      ≡ first_at (refusal_in l.files) 0 (map given_report l.reports);
}
