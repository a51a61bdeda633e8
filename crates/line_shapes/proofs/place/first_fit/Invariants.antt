use Rattle.std.proofs.Common.{◌≡◌, length, map}
use Rattle.line_shapes.specs.Part.{seen}
use Rattle.line_shapes.specs.Place.{first_fit as fits_first}
use Rattle.line_shapes.proofs.place.first_fit.Given as goal

abbrev pub invariant-loop-shapes : goal.invariant-loop-shapes
invariant-loop-shapes l = fits_first (map (λ shape. shape.1.now) l.shapes) (seen l.found) ≡ fits_first (map (λ shape. shape.1.now) l.initial.shapes) (seen l.found)

abbrev pub decreases-loop-shapes : goal.decreases-loop-shapes
decreases-loop-shapes l = length l.shapes
