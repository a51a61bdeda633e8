use Rattle.std.proofs.Common.{◌≡◌, length, false}
use Rattle.line_shapes.specs.Bytes.{are_words as are_words_joined}
use Rattle.line_shapes.proofs.bytes.are_words.Given as goal

abbrev pub invariant-loop-text : goal.invariant-loop-text
invariant-loop-text l = are_words_joined l.separator l.begun l.text ≡ are_words_joined l.separator false l.initial.text

abbrev pub decreases-loop-text : goal.decreases-loop-text
decreases-loop-text l = length l.text
