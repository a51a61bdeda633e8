-- What is left, after the attributes that were read.
use Rattle.std.proofs.Common.{◌≡◌, ◌-◌, ◌+◌, length, map}
use Rattle.xml_values.specs.Tag.{attributes, attributes_of}
use Rattle.xml_values.specs.Views.{attribute_view}
use Rattle.xml_values.proofs.tag.read_attributes.Given as goal

abbrev pub invariant-loop-turn : goal.invariant-loop-turn
invariant-loop-turn l = attributes_of l.bytes ≡ attributes (length l.bytes + 1 - l._turn) (map attribute_view l.attributes.items) l.rest
