-- Those before are blank.
use Rattle.std.proofs.Common.{◌≡◌, drop}
use Rattle.json_forms.specs.Cut.{goes_on}
use Rattle.json_forms.proofs.cut.goes_on.Given as goal

abbrev pub invariant-loop-at : goal.invariant-loop-at
invariant-loop-at l = goes_on (drop l.from l.bytes) ≡ goes_on (drop l.at l.bytes)
