use Rattle.std.proofs.Common.{◌≡◌, length}
use Rattle.line_shapes.specs.Parse.{reading, reads as reads_text, start}
use Rattle.line_shapes.proofs.parse.read.Given as goal

abbrev pub invariant-loop-text : goal.invariant-loop-text
invariant-loop-text l = reads_text l.text (reading l.reader) ≡ reads_text l.initial.text start

abbrev pub decreases-loop-text : goal.decreases-loop-text
decreases-loop-text l = length l.text
