-- Fewer steps are left; those before are there, those left are still to come.
use Rattle.std.proofs.Common.{◌≡◌, ◌+◌, ◌++◌, drop, length, map, flat_map}
use Rattle.json_spots.specs.Spot.{crumbs_view, spot_view, reached_view, child, each}
use Rattle.json_spots.proofs.spot.+each.Given as goal

abbrev pub decreases-each : goal.decreases-each
decreases-each l = length l.steps.now + length l.steps.now + 1

abbrev pub decreases-go : goal.decreases-go
decreases-go l = length l.steps.now + length l.steps.now

abbrev pub invariant-go-loop-crumb : goal.invariant-go-loop-crumb
invariant-go-loop-crumb l = map reached_view l.fn.found.items ++ flat_map (λ crumb. each l.rest (child (spot_view l.spot) crumb)) (crumbs_view l.crumb-items)
    ≡ map reached_view l.found.items ++ flat_map (λ crumb. each l.rest (child (spot_view l.spot) crumb)) (crumbs_view (drop l.crumb-index l.crumb-items))
