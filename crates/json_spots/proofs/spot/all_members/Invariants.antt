-- Those before are there; those left are still to come.
use Rattle.std.proofs.Common.{◌≡◌, ◌++◌, drop}
use Rattle.json.specs.Value.{members_view}
use Rattle.json_spots.specs.Spot.{crumbs_view, member_crumbs}
use Rattle.json_spots.proofs.spot.all_members.Given as goal

abbrev pub invariant-loop-member : goal.invariant-loop-member
invariant-loop-member l = member_crumbs (members_view l.members.items) ≡ crumbs_view l.crumbs.items ++ member_crumbs (members_view (drop l.member-index l.members.items))
