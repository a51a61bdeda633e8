-- The value of those before.
use Rattle.std.proofs.Common.{◌≡◌, ◌≤◌, length}
use Rattle.xml_values.specs.Text.{digits}
use Rattle.xml_values.proofs.text.digits.Given as goal

abbrev pub invariant-loop-rest : goal.invariant-loop-rest
invariant-loop-rest l = digits l.base 0 l.text ≡ digits l.base l.value l.rest

abbrev pub decreases-loop-rest : goal.decreases-loop-rest
decreases-loop-rest l = length l.rest
