-- The rows before are met.
use Rattle.std.proofs.Common.{◌≡◌, drop}
use Rattle.json_spots.specs.Spot.{spot_view}
use Rattle.json_forms.specs.Finding.{fault_of}
use Rattle.json_forms.proofs.finding.fault.Given as goal

abbrev pub invariant-loop-row : goal.invariant-loop-row
invariant-loop-row l = fault_of l.rows (spot_view l.spot) ≡ fault_of (drop l.row-index l.rows) (spot_view l.spot)
