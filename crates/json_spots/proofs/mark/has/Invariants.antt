-- The rows before hold.
use Rattle.std.proofs.Common.{◌≡◌, drop}
use Rattle.json.specs.Value.{value_view}
use Rattle.json_spots.specs.Mark.{has}
use Rattle.json_spots.proofs.mark.has.Given as goal

abbrev pub invariant-loop-row : goal.invariant-loop-row
invariant-loop-row l = has l.mark (value_view l.value) ≡ has (drop l.row-index l.mark) (value_view l.value)
