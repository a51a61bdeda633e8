use Rattle.std.proofs.Common.{◌≡◌, map, length, option_map, Some}
use Rattle.excerpt_texts.specs.Labels.{drawn_parts}
use Rattle.line_reports.specs.Drawings.{PlacedStand, all_laid, begun_with, laid_parts, placed_from, placed_parts}
use Rattle.line_reports.proofs.drawings.placed_all.Given as goal

abbrev pub invariant-loop-labels : goal.invariant-loop-labels
invariant-loop-labels l = let laid = map (option_map laid_parts) l.laid in record {
  stand : PlacedStand l.text (map placed_parts l.all.items);
  placed : placed_from l.text l.aim laid (Some (map placed_parts l.all.items)) (map drawn_parts l.labels) ≡ placed_from l.text l.aim laid (begun_with (all_laid laid)) (map drawn_parts l.initial.labels);
}

abbrev pub decreases-loop-labels : goal.decreases-loop-labels
decreases-loop-labels l = length l.labels
