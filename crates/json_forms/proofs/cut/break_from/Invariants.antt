-- Those before are no LF.
use Rattle.std.proofs.Common.{◌≡◌, drop}
use Rattle.json_forms.specs.Cut.{first_at, is_break}
use Rattle.json_forms.proofs.cut.break_from.Given as goal

abbrev pub invariant-loop-at : goal.invariant-loop-at
invariant-loop-at l = first_at is_break l.from (drop l.from l.bytes) ≡ first_at is_break l.at (drop l.at l.bytes)
