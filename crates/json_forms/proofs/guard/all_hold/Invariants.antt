-- Those before decide nothing.
use Rattle.std.proofs.Common.{◌≡◌, drop}
use Rattle.json_spots.specs.Spot.{spot_view}
use Rattle.json_forms.specs.Guard.{all_hold}
use Rattle.json_forms.proofs.guard.all_hold.Given as goal

abbrev pub invariant-loop-row : goal.invariant-loop-row
invariant-loop-row l = all_hold l.rows (spot_view l.spot) ≡ all_hold (drop l.row-index l.rows) (spot_view l.spot)
