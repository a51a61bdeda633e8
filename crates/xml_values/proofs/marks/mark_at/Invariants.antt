-- The mark doesn't stand before.
use Rattle.std.proofs.Common.{◌≡◌, drop}
use Rattle.xml_values.specs.Marks.{mark_at}
use Rattle.xml_values.proofs.marks.mark_at.Given as goal

abbrev pub invariant-loop-at : goal.invariant-loop-at
invariant-loop-at l = mark_at l.mark 0 l.bytes ≡ mark_at l.mark l.at (drop l.at l.bytes)
