-- The rows before begin otherwise.
use Rattle.std.proofs.Common.{◌≡◌, drop}
use Rattle.std.specs.List.{list_any}
use Rattle.json_forms.specs.Told.{row_is_open}
use Rattle.json_forms.proofs.told.is_open.Given as goal

abbrev pub invariant-loop-row : goal.invariant-loop-row
invariant-loop-row l = list_any row_is_open l.row-items ≡ list_any row_is_open (drop l.row-index l.row-items)
