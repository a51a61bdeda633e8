-- The places of the entries from here on.
use Rattle.std.proofs.Common.{◌≤◌, drop, length}
use Rattle.found_reports.specs.Listed.{ArePlaces}
use Rattle.found_reports.proofs.sources.places_of.Given as goal

abbrev pub invariant-loop-at : goal.invariant-loop-at
invariant-loop-at l = (l.at ≤ length l.entries) × ArePlaces l.at (drop l.at l.entries) l.places

abbrev pub decreases-loop-at : goal.decreases-loop-at
decreases-loop-at l = l.at
