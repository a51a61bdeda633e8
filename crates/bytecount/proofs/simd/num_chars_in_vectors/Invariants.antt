use Rattle.std.proofs.Common.{◌≡◌, ◌+◌, length, sum_by, count_by}
use Rattle.bytecount.specs.Counts.{begins_char}
use Rattle.bytecount.proofs.simd.num_chars_in_vectors.Given as goal

abbrev pub invariant-loop-rest : goal.invariant-loop-rest
invariant-loop-rest l = l.count + sum_by (λ lanes. count_by begins_char lanes) l.rest ≡ sum_by (λ lanes. count_by begins_char lanes) l.vectors

abbrev pub decreases-loop-rest : goal.decreases-loop-rest
decreases-loop-rest l = length l.rest
