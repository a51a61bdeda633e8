-- Those before are there; those left are still to come.
use Rattle.std.proofs.Common.{◌≡◌, ◌++◌, drop, map}
use Rattle.json_spots.specs.Spot.{spot_view}
use Rattle.json_forms.specs.Finding.{beside_view, sides_of}
use Rattle.json_forms.proofs.finding.sides.Given as goal

abbrev pub invariant-loop-side : goal.invariant-loop-side
invariant-loop-side l = sides_of l.list (spot_view l.spot) ≡ map beside_view l.found.items ++ sides_of (drop l.side-index l.list) (spot_view l.spot)
