-- The labels so far and those to come are all labels, and the numbers of those so far are in range.
use Rattle.std.proofs.Common.{◌≡◌, ◌++◌, All, drop, map, take}
use Rattle.serde_json.specs.View.{view}
use Rattle.render_files.specs.Given.{given_label}
use Rattle.documents.specs.Written.{IsPlace, label_value}
use Rattle.documents.proofs.written.labels_value.Given as goal

abbrev pub invariant-loop-label : goal.invariant-loop-label
invariant-loop-label l = record {
  values : map view l.values.items ++ map label_value (map given_label (drop l.label-index l.labels)) ≡ map label_value (map given_label l.labels);
  ranges : All (λ label. IsPlace label.place) (take l.label-index l.labels);
}
