-- Those before are characters.
use Rattle.std.proofs.Common.{◌≡◌, length}
use Rattle.xml_values.specs.Document.{from_no_char}
use Rattle.xml_values.proofs.document.from_no_char.Given as goal

abbrev pub invariant-loop-rest : goal.invariant-loop-rest
invariant-loop-rest l = from_no_char l.bytes ≡ from_no_char l.rest

abbrev pub decreases-loop-rest : goal.decreases-loop-rest
decreases-loop-rest l = length l.rest
