use Rattle.std.proofs.Common.{◌≡◌, length}
use Rattle.line_shapes.specs.Part.{may_begin}
use Rattle.line_shapes.proofs.part.begins.Given as goal

abbrev pub invariant-loop-parts : goal.invariant-loop-parts
invariant-loop-parts l = may_begin l.parts l.text ≡ may_begin l.initial.parts l.initial.text

abbrev pub decreases-loop-parts : goal.decreases-loop-parts
decreases-loop-parts l = length l.parts
