use Rattle.std.proofs.Common.{arith}
use Rattle.bytecount.proofs.WordLemmas.{bytes_of_digits}
use Rattle.bytecount.proofs.integer_simd.splat.Goals as goal

pub returns : goal.returns
returns c = bytes_of_digits (λ _. c.args.byte) _ (λ _. omega arith) (omega arith)
