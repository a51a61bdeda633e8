-- The values of elements and of objects.
use Rattle.std.proofs.Common.{◌≡◌, ◌∙◌, ℕ, List, [], ◌∷◌, ◌++◌, Vec, map, ap, refl, rules}
use Rattle.std.specs.Borrow.{Bor}
use Rattle.json.specs.Json.{Json, array, object, member}
use Rattle.json.specs.Value.{items_of, value_view, members_view}
use Rattle.json.specs.declared.value.Value.{Value, Array, Object}
use Rattle.json.proofs.Trees.{view-Array, view-Object}
use Rattle.xml_values.specs.declared.element.Element.{Element, out-Element, the_lemmas}
use Rattle.xml_values.specs.Element.{Parts, element_json, listed}
use Rattle.xml_values.specs.Views.{child_seen, element_view, members_seen, parts_of, attribute_view}

listed_seen : {A : Type 0} (members : List (Bor (List ℕ) × Value A)) → members_view members ≡ listed (members_seen members)
listed_seen [] = refl
listed_seen (it ∷ rest) = ap (member it.0.now (value_view it.1)) (listed_seen rest)

pub object_seen : {A : Type 0} (members : Vec (Bor (List ℕ) × Value A) A) → value_view (Object members) ≡ object (listed (members_seen members.items))
object_seen members = view-Object members ∙ ap object (listed_seen members.items)

pub array_seen : {A : Type 0} (values : Vec (Value A) A) → value_view (Array values) ≡ array (items_of (map value_view values.items))
array_seen values = view-Array values

half_seen : Bor (List ℕ) × Element → Bor (List ℕ) × Json
half_seen it = (it.0, element_view it.1)

seen_child : Bor (List ℕ) × Json → List ℕ × Json
seen_child it = (it.0.now, it.1)

twice_seen : List (Bor (List ℕ) × Element) → List (List ℕ × Json)
twice_seen children = map seen_child (map half_seen children)

once : (children : List (Bor (List ℕ) × Element)) → twice_seen children ≡ map child_seen children
unfolding twice_seen half_seen seen_child
once [] = refl
once (it ∷ rest) = ap (λ more. child_seen it ∷ more) (once rest)

with_children : Element → List (List ℕ × Json) → Json
with_children it children = element_json (record { attributes = map attribute_view (out-Element it).attributes.items; names = map (λ name. name.now) (out-Element it).names.items; children = children; text = (out-Element it).text.items })

near : (it : Element) → element_view it ≡ with_children it (twice_seen (out-Element it).children.items)
unfolding twice_seen with_children half_seen seen_child
near it = search (rules, the_lemmas)

pub view_is : (it : Element) → element_view it ≡ element_json (parts_of it)
unfolding with_children
view_is it = near it ∙ ap (with_children it) (once (out-Element it).children.items)
