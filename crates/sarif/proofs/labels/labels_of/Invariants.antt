-- The labels so far, with those that are still to come.
use Rattle.std.proofs.Common.{◌≡◌, [], ◌∷◌, All, drop, map}
use Rattle.found_reports.specs.Found.{StandsIn}
use Rattle.found_reports.specs.Held.{held_text}
use Rattle.sarif.specs.Labels.{labels_with}
use Rattle.sarif.specs.Views.{known_view, placed_view, reading_view}
use Rattle.sarif.proofs.labels.labels_of.Given as goal

abbrev pub invariant-loop-it : goal.invariant-loop-it
invariant-loop-it l = record {
  value : labels_with (reading_view l.reading) (known_view l.file) l.labels.items (map (placed_view l.known) (drop l.it-index l.others)) ≡ labels_with (reading_view l.reading) (known_view l.file) (l.fn.first ∷ []) (map (placed_view l.known) l.others);
  stand : All (StandsIn (held_text (known_view l.file).held)) l.labels.items;
}
