-- What is left, after the parts that were read.
use Rattle.std.proofs.Common.{◌≡◌, ◌+◌, ◌-◌, ◌*◌, length}
use Rattle.xml_values.specs.Element.{content, element}
use Rattle.xml_values.specs.Views.{parts_of}
use Rattle.xml_values.proofs.element.+read.Given as goal

abbrev pub decreases-read_element : goal.decreases-read_element
decreases-read_element l = 3 * l.depth

abbrev pub decreases-read_part : goal.decreases-read_part
decreases-read_part l = 3 * l.depth + 1

abbrev pub decreases-read_content : goal.decreases-read_content
decreases-read_content l = 3 * l.depth + 2

abbrev pub invariant-read_content-loop-turn : goal.invariant-read_content-loop-turn
invariant-read_content-loop-turn l =
    content (element l.depth) (length l.bytes + 1) (parts_of l.initial.into) l.bytes ≡ content (element l.depth) (length l.bytes + 1 - l._turn) (parts_of l.into) l.rest
