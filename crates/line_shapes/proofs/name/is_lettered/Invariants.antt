use Rattle.std.proofs.Common.{◌≡◌, length, reverse}
use Rattle.line_shapes.specs.Name.{is_lettered as ends_lettered}
use Rattle.line_shapes.proofs.name.is_lettered.Given as goal

abbrev pub invariant-loop-text : goal.invariant-loop-text
invariant-loop-text l = ends_lettered (reverse l.text) ≡ ends_lettered (reverse l.initial.text)

abbrev pub decreases-loop-text : goal.decreases-loop-text
decreases-loop-text l = length l.text
