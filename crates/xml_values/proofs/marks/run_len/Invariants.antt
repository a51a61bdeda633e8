-- Those before are of the class.
use Rattle.std.proofs.Common.{◌≡◌, drop}
use Rattle.xml_values.specs.Marks.{run_len}
use Rattle.xml_values.proofs.marks.run_len.Given as goal

abbrev pub invariant-loop-at : goal.invariant-loop-at
invariant-loop-at l = run_len l.class 0 l.bytes ≡ run_len l.class l.at (drop l.at l.bytes)
