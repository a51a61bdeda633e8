-- Those before are blank.
use Rattle.std.proofs.Common.{◌≡◌, drop}
use Rattle.json_forms.specs.Cut.{first_at, is_solid}
use Rattle.json_forms.proofs.cut.solid_from.Given as goal

abbrev pub invariant-loop-at : goal.invariant-loop-at
invariant-loop-at l = first_at is_solid l.from (drop l.from l.bytes) ≡ first_at is_solid l.at (drop l.at l.bytes)
