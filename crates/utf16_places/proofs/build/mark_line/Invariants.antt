use Rattle.std.proofs.Common.{◌≡◌, ◌+◌, ◌-◌, ◌≤◌}
use Rattle.std.specs.Str.{IsCharBoundary}
use Rattle.utf16_places.specs.Index.{AreWideBefore}
use Rattle.utf16_places.proofs.UnitsLemmas.{before}
use Rattle.utf16_places.proofs.build.mark_line.Given as goal

abbrev pub invariant-loop-skipped : goal.invariant-loop-skipped
invariant-loop-skipped l = record {
  from : l.start ≤ l.at;
  up_to : l.at ≤ l.end;
  boundary : IsCharBoundary l.text l.at;
  units : l.unit + before l.text l.start ≡ before l.text l.at;
  marked : AreWideBefore l.text l.at l.wide.items;
}

abbrev pub decreases-loop-skipped : goal.decreases-loop-skipped
decreases-loop-skipped l = l.end - l.at
