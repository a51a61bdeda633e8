use Rattle.std.proofs.Common.{◌≡◌, length}
use Rattle.line_shapes.specs.Bytes.{begins_with as begins_any_case}
use Rattle.line_shapes.proofs.bytes.begins_with.Given as goal

abbrev pub invariant-loop-word : goal.invariant-loop-word
invariant-loop-word l = begins_any_case l.text l.word ≡ begins_any_case l.initial.text l.initial.word

abbrev pub decreases-loop-word : goal.decreases-loop-word
decreases-loop-word l = length l.word
