-- Those before decide nothing.
use Rattle.std.proofs.Common.{◌≡◌, drop}
use Rattle.json_spots.specs.Spot.{spot_view}
use Rattle.json_forms.specs.Guard.{any_holds}
use Rattle.json_forms.proofs.guard.any_holds.Given as goal

abbrev pub invariant-loop-row : goal.invariant-loop-row
invariant-loop-row l = any_holds l.rows (spot_view l.spot) ≡ any_holds (drop l.row-index l.rows) (spot_view l.spot)
