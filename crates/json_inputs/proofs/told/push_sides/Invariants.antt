-- Those before are told; those left are still to come.
use Rattle.std.proofs.Common.{◌≡◌, ◌++◌, map, string_bytes, length}
use Rattle.std.specs.List.{flat_map}
use Rattle.json_forms.specs.Finding.{beside_view}
use Rattle.json_inputs.specs.Told.{beside_line}
use Rattle.json_inputs.proofs.told.push_sides.Given as goal

abbrev pub invariant-loop-sides : goal.invariant-loop-sides
invariant-loop-sides l =
    string_bytes l.out ++ flat_map (beside_line l.row) (map beside_view l.sides) ≡ string_bytes l.initial.out ++ flat_map (beside_line l.row) (map beside_view l.initial.sides)

abbrev pub decreases-loop-sides : goal.decreases-loop-sides
decreases-loop-sides l = length l.sides
