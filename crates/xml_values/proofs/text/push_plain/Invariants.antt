-- Those before are there; those left are still to come.
use Rattle.std.proofs.Common.{◌≡◌, ◌++◌, length}
use Rattle.xml_values.specs.Text.{plain}
use Rattle.xml_values.proofs.text.push_plain.Given as goal

abbrev pub invariant-loop-rest : goal.invariant-loop-rest
invariant-loop-rest l = l.out.items ++ plain l.in_attribute l.rest ≡ l.initial.out.items ++ plain l.in_attribute l.text

abbrev pub decreases-loop-rest : goal.decreases-loop-rest
decreases-loop-rest l = length l.rest
