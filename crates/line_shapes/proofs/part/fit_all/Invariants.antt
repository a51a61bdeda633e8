use Rattle.std.proofs.Common.{◌≡◌, length}
use Rattle.line_shapes.specs.Part.{fit as fits_there, seen}
use Rattle.line_shapes.proofs.part.fit_all.Given as goal

abbrev pub invariant-loop-parts : goal.invariant-loop-parts
invariant-loop-parts l = fits_there l.parts (seen l.found) ≡ fits_there l.initial.parts (seen l.initial.found)

abbrev pub decreases-loop-parts : goal.decreases-loop-parts
decreases-loop-parts l = length l.parts
