-- Those so far.
use Rattle.std.proofs.Common.{◌≡◌, map, take}
use Rattle.sarif_log.specs.Log.{location_view}
use Rattle.sarif.specs.Findings.{spot_at, spot_view}
use Rattle.sarif.specs.Seen.{strings_view}
use Rattle.sarif.proofs.findings.spots.Given as goal

abbrev pub invariant-loop-location : goal.invariant-loop-location
invariant-loop-location l = map spot_view l.spots.items ≡ map (spot_at (strings_view l.strings)) (map location_view (take l.location-index l.locations))
