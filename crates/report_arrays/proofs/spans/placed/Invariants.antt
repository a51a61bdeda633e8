-- The labels so far and those to come are all labels.
use Rattle.std.proofs.Common.{◌≡◌, ◌++◌, drop, map}
use Rattle.render_files.specs.Shown.{placed}
use Rattle.report_arrays.specs.Values.{label}
use Rattle.report_arrays.proofs.spans.placed.Given as goal

abbrev pub invariant-loop-label : goal.invariant-loop-label
invariant-loop-label l =
    l.spans.items ++ map (placed l.source) (map (label l.texts) (drop l.label-index l.labels))
    ≡ map (placed l.source) (map (label l.texts) l.labels)
