-- What the values of the code stand for.
use Rattle.std.specs.Prelude.{List, ℕ, map}
use Rattle.std.specs.Borrow.{Bor}
use Rattle.json.specs.declared.value.Value.{Value}
use Rattle.json.specs.Value.{value_view}
use Rattle.json.specs.Json.{Json, object, member, no_members}
use Rattle.xml_values.specs.declared.tag.Attribute.{Attribute}
use Rattle.xml_values.specs.declared.element.Element.{Element, fold-Element, out-Element}
use Rattle.xml_values.specs.declared.element.Element.TheOpen.{Element-F}
use Rattle.xml_values.specs.declared.document.Document.{Document}
use Rattle.xml_values.specs.Element.{Parts, element_json, rooted}

abbrev pub attribute_view : Attribute → List ℕ × List ℕ
attribute_view it = (it.name.now, it.text.items)

-- one level, with each child already seen as its value
abbrev pub view_step : Element-F Json → Json
view_step it = element_json (record { attributes = map attribute_view it.attributes.items; names = map (λ name. name.now) it.names.items; children = map (λ child. (child.0.now, child.1)) it.children.items; text = it.text.items })

abbrev pub element_view : Element → Json
element_view = fold-Element Json view_step

abbrev pub child_seen : Bor (List ℕ) × Element → List ℕ × Json
child_seen it = (it.0.now, element_view it.1)

abbrev pub parts_in : Element-F Element → Parts
parts_in it = record { attributes = map attribute_view it.attributes.items; names = map (λ name. name.now) it.names.items; children = map child_seen it.children.items; text = it.text.items }

abbrev pub parts_of : Element → Parts
parts_of it = parts_in (out-Element it)

abbrev pub document_view : Document → Json
document_view it = rooted (it.name.now, element_view it.root)

-- members, each with its key and its value
abbrev pub members_seen : {A : Type 0} → List (Bor (List ℕ) × Value A) → List (List ℕ × Json)
members_seen members = map (λ it. (it.0.now, value_view it.1)) members
