-- The paths before lead to nothing.
use Rattle.std.proofs.Common.{◌≡◌, drop}
use Rattle.json_spots.specs.Spot.{spot_view}
use Rattle.json_forms.specs.Said.{pick}
use Rattle.json_forms.proofs.said.pick.Given as goal

abbrev pub invariant-loop-path : goal.invariant-loop-path
invariant-loop-path l = pick l.paths (spot_view l.spot) ≡ pick (drop l.path-index l.paths) (spot_view l.spot)
