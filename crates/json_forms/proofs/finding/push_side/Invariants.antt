-- Those before are there; those left are still to come.
use Rattle.std.proofs.Common.{◌≡◌, ◌++◌, drop, map, flat_map}
use Rattle.json_spots.specs.Spot.{reached_view}
use Rattle.json_forms.specs.Finding.{beside_at, beside_view}
use Rattle.json_forms.proofs.finding.push_side.Given as goal

abbrev pub invariant-loop-reached : goal.invariant-loop-reached
invariant-loop-reached l = map beside_view l.fn.found.items ++ flat_map (beside_at l.side) (map reached_view l.reached-items)
    ≡ map beside_view l.found.items ++ flat_map (beside_at l.side) (map reached_view (drop l.reached-index l.reached-items))
