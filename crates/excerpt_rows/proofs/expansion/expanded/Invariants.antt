use Rattle.std.proofs.Common.{◌≡◌, ◌*◌, ◌≤◌, take, length}
use Rattle.excerpt_rows.specs.Expansion.{IsMeasured, expanded}
use Rattle.excerpt_rows.proofs.expansion.expanded.Given as goal

abbrev pub invariant-loop-c : goal.invariant-loop-c
invariant-loop-c l = record {
  text : l.printed.text.items ≡ expanded l.rule (take l.c-index l.row);
  measured : IsMeasured l.printed;
  few : length l.printed.text.items ≤ l.c-index * 10;
}
