-- Those before have other names.
use Rattle.std.proofs.Common.{◌≡◌, drop, map}
use Rattle.xml_values.specs.Tag.{is_among, names_of}
use Rattle.xml_values.specs.Views.{attribute_view}
use Rattle.xml_values.proofs.tag.may_add.Given as goal

abbrev pub invariant-loop-other : goal.invariant-loop-other
invariant-loop-other l = is_among l.it.name.now (names_of (map attribute_view l.attributes)) ≡ is_among l.it.name.now (names_of (map attribute_view (drop l.other-index l.attributes)))
