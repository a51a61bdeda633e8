-- Those before are told; those left are still to come.
use Rattle.std.proofs.Common.{◌≡◌, ◌++◌, map, string_bytes, length}
use Rattle.std.specs.List.{flat_map}
use Rattle.json_forms.specs.Read.{aside_view}
use Rattle.json_inputs.specs.Told.{aside_line}
use Rattle.json_inputs.proofs.told.push_asides.Given as goal

abbrev pub invariant-loop-asides : goal.invariant-loop-asides
invariant-loop-asides l =
    string_bytes l.out ++ flat_map (aside_line l.row) (map aside_view l.asides) ≡ string_bytes l.initial.out ++ flat_map (aside_line l.row) (map aside_view l.initial.asides)

abbrev pub decreases-loop-asides : goal.decreases-loop-asides
decreases-loop-asides l = length l.asides
