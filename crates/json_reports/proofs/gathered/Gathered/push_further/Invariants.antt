-- Those before are there; those left are still to come.
use Rattle.std.proofs.Common.{◌≡◌, ◌++◌, map, length}
use Rattle.std.specs.List.{filter_map}
use Rattle.found_reports.specs.Found.{LabelsStand, file_at}
use Rattle.json_forms.specs.Finding.{beside_view}
use Rattle.json_reports.specs.Reports.{further}
use Rattle.json_reports.proofs.gathered.Gathered.push_further.Given as goal

abbrev pub invariant-loop-sides : goal.invariant-loop-sides
invariant-loop-sides l =
    let held = (file_at l.self.found.files l.file).held in
    record {
      stand : LabelsStand held l.labels.items;
      labels : l.labels.items ++ filter_map (further l.name held l.head) (map beside_view l.sides) ≡ l.initial.labels.items ++ filter_map (further l.name held l.head) (map beside_view l.initial.sides);
    }

abbrev pub decreases-loop-sides : goal.decreases-loop-sides
decreases-loop-sides l = length l.sides
