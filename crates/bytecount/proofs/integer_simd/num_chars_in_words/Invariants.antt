use Rattle.std.proofs.Common.{◌≡◌, ◌+◌, length, sum_by, count_by}
use Rattle.bytecount.specs.Counts.{begins_char}
use Rattle.bytecount.proofs.integer_simd.num_chars_in_words.Given as goal

abbrev pub invariant-loop-rest : goal.invariant-loop-rest
invariant-loop-rest l = l.count + sum_by (λ word. count_by begins_char word) l.rest ≡ sum_by (λ word. count_by begins_char word) l.words

abbrev pub decreases-loop-rest : goal.decreases-loop-rest
decreases-loop-rest l = length l.rest
