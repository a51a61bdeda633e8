use Rattle.std.proofs.Common.{◌≡◌, ◌+◌, ◌==◌, length, sum_by, count_by}
use Rattle.bytecount.proofs.simd.count_in_vectors.Given as goal

abbrev pub invariant-loop-rest : goal.invariant-loop-rest
invariant-loop-rest l = l.count + sum_by (λ lanes. count_by (λ byte. byte == l.needle) lanes) l.rest ≡ sum_by (λ lanes. count_by (λ byte. byte == l.needle) lanes) l.vectors

abbrev pub decreases-loop-rest : goal.decreases-loop-rest
decreases-loop-rest l = length l.rest
