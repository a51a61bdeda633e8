-- The spots before are in the group.
use Rattle.std.proofs.Common.{◌≡◌, ◌+◌, drop, map}
use Rattle.std.specs.List.{prefix_len}
use Rattle.html_pages.specs.Groups.{same_group}
use Rattle.html_pages.specs.Spots.{spot_parts}
use Rattle.html_pages.proofs.groups.same_in.Given as goal

abbrev pub invariant-loop-next : goal.invariant-loop-next
invariant-loop-next l = record {
  counted : l.count ≡ l.next-index;
  rest : l.count + prefix_len (same_group (spot_parts l.spot)) (map spot_parts (drop l.next-index l.rest)) ≡ prefix_len (same_group (spot_parts l.spot)) (map spot_parts l.rest);
}
