-- The rows before don't have the word.
use Rattle.std.proofs.Common.{◌≡◌, drop}
use Rattle.json_forms.specs.Severity.{own}
use Rattle.json_forms.proofs.severity.own_severity.Given as goal

abbrev pub invariant-loop-row : goal.invariant-loop-row
invariant-loop-row l = own l.rows l.text ≡ own (drop l.row-index l.rows) l.text
