-- Nothing before is at fault.
use Rattle.std.proofs.Common.{◌≡◌, drop}
use Rattle.json.specs.Value.{items_view, members_view}
use Rattle.sarif_log.specs.Faults.{items_fault, members_fault}
use Rattle.sarif_log.proofs.faults.+fault.Given as goal

abbrev pub invariant-items_fault-loop-at : goal.invariant-items_fault-loop-at
invariant-items_fault-loop-at l = items_fault l.kind 0 (items_view l.items.items) ≡ items_fault l.kind l.at (items_view (drop l.at l.items.items))

abbrev pub invariant-members_fault-loop-member : goal.invariant-members_fault-loop-member
invariant-members_fault-loop-member l = members_fault l.kind (members_view l.members.items) ≡ members_fault l.kind (members_view (drop l.member-index l.members.items))
