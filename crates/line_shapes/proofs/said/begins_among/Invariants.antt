use Rattle.std.proofs.Common.{◌≡◌, length, map}
use Rattle.std.specs.List.{list_any}
use Rattle.line_shapes.specs.Bytes.{begins_with}
use Rattle.line_shapes.proofs.said.begins_among.Given as goal

abbrev pub invariant-loop-words : goal.invariant-loop-words
invariant-loop-words l = list_any (begins_with l.text) (map (λ word. word.now) l.words) ≡ list_any (begins_with l.initial.text) (map (λ word. word.now) l.initial.words)

abbrev pub decreases-loop-words : goal.decreases-loop-words
decreases-loop-words l = length l.words
