-- The labels that a report names in the list of all labels.
use Rattle.std.specs.Prelude.{ℕ, ◌+◌, ◌-◌, ◌&&◌, nat_le, Bool, List, [], length, slice_range, if◌then◌else◌}
use Rattle.report_arrays.specs.declared.shapes.Report.{Report}
use Rattle.report_arrays.specs.declared.shapes.Label.{Label}

-- the report's labels stand in a list so long
abbrev pub has_labels : ℕ → Report → Bool
has_labels labels report =
    nat_le report.first_label labels && nat_le report.labels (labels - report.first_label)

-- the labels of a report; none where they stand outside the list
abbrev pub labels_of : List Label → Report → List Label
labels_of labels report =
    if has_labels (length labels) report
    then slice_range labels report.first_label (report.first_label + report.labels)
    else []
