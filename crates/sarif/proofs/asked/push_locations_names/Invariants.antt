-- The names of the locations so far.
use Rattle.std.proofs.Common.{◌≡◌, ◌++◌, flat_map, map, string_bytes, take}
use Rattle.sarif_log.specs.Log.{location_view, names_view}
use Rattle.sarif.specs.Asked.{location_names}
use Rattle.sarif.proofs.asked.push_locations_names.Given as goal

abbrev pub invariant-loop-location : goal.invariant-loop-location
invariant-loop-location l = map string_bytes l.names.items ≡ map string_bytes l.initial.names.items ++ flat_map (location_names (names_view l.those)) (map location_view (take l.location-index l.locations))
