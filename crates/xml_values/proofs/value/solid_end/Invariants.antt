-- The last that isn't blank, of those before.
use Rattle.std.proofs.Common.{◌≡◌, ◌≤◌, drop}
use Rattle.xml_values.specs.Element.{solid_end}
use Rattle.xml_values.proofs.value.solid_end.Given as goal

abbrev pub invariant-loop-at : goal.invariant-loop-at
invariant-loop-at l = record {
  ahead : solid_end 0 0 l.bytes ≡ solid_end l.end l.at (drop l.at l.bytes);
  within : l.end ≤ l.at;
}
