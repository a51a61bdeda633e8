-- Those so far stand at their seats, and each seat is that of what its location stands for.
use Rattle.std.proofs.Common.{◌≡◌, ◌++◌, All, map, take}
use Rattle.sarif.specs.Findings.{spot_view}
use Rattle.sarif.specs.Labels.{placed}
use Rattle.sarif.specs.Views.{IsFiled, IsSeated, IsTold, placed_view, reading_view}
use Rattle.sarif.proofs.known.push_placed.Given as goal

abbrev pub invariant-loop-spot : goal.invariant-loop-spot
invariant-loop-spot g l = record {
  told : All (IsTold (g.S.Sources.told l.sources) (reading_view l.reading)) l.known.files.items;
  filed : All (IsFiled (reading_view l.reading) l.found.files) l.known.files.items;
  seated : All (IsSeated l.known.files.items) l.placed.items;
  placed : map (placed_view l.known.files.items) l.placed.items ≡ map (placed_view l.initial.known.files.items) l.initial.placed.items ++ map (placed (g.S.Sources.told l.sources) (reading_view l.reading)) (map spot_view (take l.spot-index l.spots));
  found : l.found.found ≡ l.initial.found.found;
}
