-- Those before are there; those left are still to come.
use Rattle.std.proofs.Common.{◌≡◌, ◌++◌, drop, map}
use Rattle.json.specs.Value.{value_view}
use Rattle.xml_values.specs.Element.{array_named, children_named}
use Rattle.xml_values.specs.Views.{child_seen, members_seen, parts_of}
use Rattle.xml_values.proofs.value.+value.Given as goal

abbrev pub invariant-array_named-loop-child : goal.invariant-array_named-loop-child
invariant-array_named-loop-child l =
    map value_view l.values.items ++ children_named l.name (map child_seen (drop l.child-index l.child-items)) ≡ children_named l.name (map child_seen l.child-items)

abbrev pub invariant-push_arrays-loop-name : goal.invariant-push_arrays-loop-name
invariant-push_arrays-loop-name l =
    members_seen l.members.items ++ map (array_named (parts_of l.element).children) (map (λ it. it.now) (drop l.name-index l.name-items)) ≡ members_seen l.initial.members.items ++ map (array_named (parts_of l.element).children) (map (λ it. it.now) l.name-items)
