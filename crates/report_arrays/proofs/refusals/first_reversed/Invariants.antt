-- No label so far is at fault.
use Rattle.std.proofs.Common.{◌≡◌, drop, map}
use Rattle.render_files.specs.Refusal.{first_at, reversed}
use Rattle.report_arrays.specs.Values.{label}
use Rattle.report_arrays.proofs.refusals.first_reversed.Given as goal

abbrev pub invariant-loop-at : goal.invariant-loop-at
invariant-loop-at l =
    first_at (reversed l.source l.report) l.at (map (label l.texts) (drop l.at l.labels))
    ≡ first_at (reversed l.source l.report) 0 (map (label l.texts) l.labels)
