use Rattle.std.proofs.Common.{◌*◌, ◌≤◌, length}
use Rattle.excerpt_rows.specs.Expansion.{IsMeasured}
use Rattle.excerpt_rows.proofs.ExpansionLemmas.{PlacesSoFar}
use Rattle.excerpt_rows.proofs.expansion.shown_places.Given as goal

abbrev pub invariant-loop-c : goal.invariant-loop-c
invariant-loop-c l = record {
  places : PlacesSoFar l.rule l.row l.c-index l.printed.text.items l.places.items l.offset;
  measured : IsMeasured l.printed;
  few : length l.printed.text.items ≤ l.c-index * 10;
  small : l.offset ≤ l.c-index * 4;
}
