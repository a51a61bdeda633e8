-- Fewer steps are left; the values before aren't of these kinds.
use Rattle.std.proofs.Common.{◌≡◌, ◌+◌, drop, length}
use Rattle.json.specs.Value.{items_view, members_view}
use Rattle.json_spots.specs.Mark.{leads_to, some_item, some_member}
use Rattle.json_spots.proofs.mark.+leads.Given as goal

abbrev pub decreases-leads_to : goal.decreases-leads_to
decreases-leads_to l = length l.steps.now + length l.steps.now

abbrev pub decreases-found_leads : goal.decreases-found_leads
decreases-found_leads l = length l.steps.now + length l.steps.now + 1

abbrev pub decreases-item_leads : goal.decreases-item_leads
decreases-item_leads l = length l.steps.now + length l.steps.now + 1

abbrev pub decreases-member_leads : goal.decreases-member_leads
decreases-member_leads l = length l.steps.now + length l.steps.now + 1

abbrev pub invariant-item_leads-loop-item : goal.invariant-item_leads-loop-item
invariant-item_leads-loop-item l = some_item (leads_to l.kinds l.steps) (items_view l.items.items) ≡ some_item (leads_to l.kinds l.steps) (items_view (drop l.item-index l.items.items))

abbrev pub invariant-member_leads-loop-member : goal.invariant-member_leads-loop-member
invariant-member_leads-loop-member l = some_member (leads_to l.kinds l.steps) (members_view l.members.items) ≡ some_member (leads_to l.kinds l.steps) (members_view (drop l.member-index l.members.items))
