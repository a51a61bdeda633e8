-- The rows before are others.
use Rattle.std.proofs.Common.{◌≡◌, drop}
use Rattle.json_forms.specs.Rows.{constant}
use Rattle.json_forms.proofs.rows.constant.Given as goal

abbrev pub invariant-loop-row : goal.invariant-loop-row
invariant-loop-row l = constant l.rows l.key ≡ constant (drop l.row-index l.rows) l.key
