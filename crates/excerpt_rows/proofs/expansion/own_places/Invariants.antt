use Rattle.std.proofs.Common.{◌*◌, ◌≤◌}
use Rattle.excerpt_rows.proofs.ExpansionLemmas.{OwnSoFar}
use Rattle.excerpt_rows.proofs.expansion.own_places.Given as goal

abbrev pub invariant-loop-c : goal.invariant-loop-c
invariant-loop-c l = record {
  places : OwnSoFar l.row l.c-index l.places.items l.offset;
  small : l.offset ≤ l.c-index * 4;
}
