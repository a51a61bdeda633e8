use Rattle.std.proofs.Common.{◌≡◌, length}
use Rattle.line_shapes.specs.Parse.{same as same_bytes}
use Rattle.line_shapes.proofs.parse.same.Given as goal

abbrev pub invariant-loop-text : goal.invariant-loop-text
invariant-loop-text l = same_bytes l.text l.other ≡ same_bytes l.initial.text l.initial.other

abbrev pub decreases-loop-text : goal.decreases-loop-text
decreases-loop-text l = length l.text
