-- Those before are there; those left are still to come.
use Rattle.std.proofs.Common.{◌≡◌, ◌++◌, drop}
use Rattle.json.specs.Value.{items_view}
use Rattle.json_spots.specs.Spot.{crumbs_view, item_crumbs}
use Rattle.json_spots.proofs.spot.all_items.Given as goal

abbrev pub invariant-loop-at : goal.invariant-loop-at
invariant-loop-at l = item_crumbs 0 (items_view l.items.items) ≡ crumbs_view l.crumbs.items ++ item_crumbs l.at (items_view (drop l.at l.items.items))
