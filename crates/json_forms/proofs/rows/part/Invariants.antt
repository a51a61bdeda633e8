-- The rows before are others.
use Rattle.std.proofs.Common.{◌≡◌, drop}
use Rattle.json_forms.specs.Rows.{part}
use Rattle.json_forms.proofs.rows.part.Given as goal

abbrev pub invariant-loop-row : goal.invariant-loop-row
invariant-loop-row l = part l.rows l.key ≡ part (drop l.row-index l.rows) l.key
