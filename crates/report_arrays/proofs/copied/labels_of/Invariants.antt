-- The labels so far and those to come are all labels.
use Rattle.std.proofs.Common.{◌≡◌, ◌++◌, drop, map}
use Rattle.render_files.specs.Given.{given_label}
use Rattle.report_arrays.specs.Values.{label}
use Rattle.report_arrays.proofs.copied.labels_of.Given as goal

abbrev pub invariant-loop-label : goal.invariant-loop-label
invariant-loop-label l = map given_label l.made.items ++ map (label l.texts) (drop l.label-index l.labels) ≡ map (label l.texts) l.labels
