-- Those before are there; those left are still to come.
use Rattle.std.proofs.Common.{◌≡◌, ◌++◌, drop, map}
use Rattle.xml_values.specs.Element.{own_attributes}
use Rattle.xml_values.specs.Views.{attribute_view, members_seen}
use Rattle.xml_values.proofs.value.push_attributes.Given as goal

abbrev pub invariant-loop-attribute : goal.invariant-loop-attribute
invariant-loop-attribute l =
    members_seen l.members.items ++ own_attributes (map (λ it. it.now) l.names) (map attribute_view (drop l.attribute-index l.attributes)) ≡ members_seen l.initial.members.items ++ own_attributes (map (λ it. it.now) l.names) (map attribute_view l.attributes)
