-- Those before are the same.
use Rattle.std.proofs.Common.{◌≡◌, drop}
use Rattle.xml_values.specs.Document.{are_letters}
use Rattle.xml_values.proofs.document.is_in_any_case.Given as goal

abbrev pub invariant-loop-at : goal.invariant-loop-at
invariant-loop-at l = are_letters l.bytes l.word ≡ are_letters (drop l.at l.bytes) (drop l.at l.word)
