use Rattle.std.proofs.Common.{◌≡◌, ◌||◌, length}
use Rattle.line_shapes.specs.Place.{figure_behind}
use Rattle.line_shapes.proofs.place.has_figure.Given as goal

abbrev pub invariant-loop-text : goal.invariant-loop-text
invariant-loop-text l = (l.found || figure_behind l.last l.text) ≡ figure_behind 0 l.initial.text

abbrev pub decreases-loop-text : goal.decreases-loop-text
decreases-loop-text l = length l.text
