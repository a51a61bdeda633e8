use Rattle.std.proofs.Common.{arith}
use Rattle.std.proofs.lemmas.Grind.{common_steps}
use Rattle.bytecount.specs.Words.{bytes_of}
use Rattle.bytecount.proofs.integer_simd.sum_usize.Goals as goal

pub returns-clause-sum : goal.returns-clause-sum
unfolding bytes_of
returns-clause-sum c = grind (arith, common_steps)

pub returns-clause-bound : goal.returns-clause-bound
returns-clause-bound c = omega arith
