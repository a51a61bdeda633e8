-- The cases whose parts come from several calls.
use Rattle.std.proofs.Common.{◌≡◌, ◌∙◌, ◌+◌, ◌-◌, ◌<◌, Some, true, false, length, map, ap, arith, sym}
use Rattle.xml_values.specs.Element.{content, element, may_hold}
use Rattle.xml_values.specs.Views.{attribute_view, element_view, parts_of}
use Rattle.xml_values.proofs.ElementLemmas.{full, one_child, part_section, whole_element}
use Rattle.xml_values.proofs.ValueLemmas.{view_is}
use Rattle.xml_values.proofs.element.+read.Goals as goal

pub read_part-returns-in-Some-section-clause-part : goal.read_part-returns-in-Some-section-clause-part
read_part-returns-in-Some-section-clause-part t c =
    part_section (element c.args.depth) (parts_of c.args.into.now) (parts_of c.push_section.new.into) c.args.bytes.now c.in-Some-section.text.now c.in-Some-section.rest.now
    (sym c.in_default.ensures) (sym c.in-Some-section.ensures) c.in_ok-push_section.ensures

pub read_part-returns-then-not-may_hold-clause-cause : goal.read_part-returns-then-not-may_hold-clause-cause
read_part-returns-then-not-may_hold-clause-cause t c = λ refused.
    let never : may_hold (parts_of c.args.into.now) c.in_ok-name.name.now ≡ false = grind arith in
    full (element c.args.depth) (parts_of c.args.into.now) c.args.bytes.now c.in-Some-after-2.from.now c.in_ok-name.name.now (element_view c.in_ok-name.child) c.in_ok-name.rest.now
    (sym c.in_default.ensures) (sym c.in_default-section.ensures) (sym c.in_default-after.ensures) (sym c.in-Some-after-2.ensures) c.in_ok-name.ensures.element never

pub read_part-returns-in-Some-after-2-clause-part : goal.read_part-returns-in-Some-after-2-clause-part
read_part-returns-in-Some-after-2-clause-part t c =
    let may : may_hold (parts_of c.args.into.now) c.in_ok-name.name.now ≡ true = grind arith in
    one_child (element c.args.depth) (parts_of c.args.into.now) (parts_of c.push_child.new.into) c.args.bytes.now c.in-Some-after-2.from.now c.in_ok-name.name.now (element_view c.in_ok-name.child) c.in_ok-name.rest.now
    (sym c.in_default.ensures) (sym c.in_default-section.ensures) (sym c.in_default-after.ensures) (sym c.in-Some-after-2.ensures) c.in_ok-name.ensures.element may c.in_ok-push_child.ensures

pub read_element-returns-in-Some-past_end-clause-element : goal.read_element-returns-in-Some-past_end-clause-element
read_element-returns-in-Some-past_end-clause-element t c =
    let depth = c.args.depth in
    let inner = c.in-Some-after-2.inner.now in
    let name = c.in-Some.name.now in
    let some : 0 < depth = grind arith in
    let whole = ap (λ parts. content (element (depth - 1)) (length inner + 1) parts inner) (sym c.opened-element.ensures) ∙ c.in_ok-end.ensures.content in
    whole_element depth c.args.bytes.now name c.in-Some.from.now (map attribute_view c.in_ok-attributes.attributes.items) c.in_ok-attributes.from.now inner (parts_of c.read_content.new.into) c.in_ok-end.end.now c.in-Some-past_end.rest.now
    some (sym c.in-Some.ensures) c.in_ok-attributes.ensures.attributes (sym c.in_default-after.ensures) (sym c.in-Some-after-2.ensures) whole (sym c.in-Some-past_end.ensures)
    ∙ ap (λ value. Some ((name, value), c.in-Some-past_end.rest.now)) (sym (view_is c.read_content.new.into))
