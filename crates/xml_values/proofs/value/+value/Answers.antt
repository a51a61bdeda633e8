-- The members are those of the element.
use Rattle.std.proofs.Common.{◌≡◌, ◌∙◌, ◌++◌, ap, arith, sym}
use Rattle.json.specs.Json.{object}
use Rattle.xml_values.specs.Element.{listed, members_of_parts}
use Rattle.xml_values.specs.Views.{members_seen, parts_of}
use Rattle.xml_values.proofs.ValueLemmas.{object_seen, view_is}
use Rattle.xml_values.proofs.value.+value.Goals as goal

pub element_value-returns : goal.element_value-returns
element_value-returns t c =
    let all : members_seen c.push_own_text.new.members.items ≡ members_of_parts (parts_of c.args.element.now) = grind arith in
    object_seen c.push_own_text.new.members ∙ ap (λ members. object (listed members)) all ∙ sym (view_is c.args.element.now)
