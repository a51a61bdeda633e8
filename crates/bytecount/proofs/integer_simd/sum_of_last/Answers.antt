use Rattle.std.proofs.Common.{arith, sym, ◌∙◌}
use Rattle.bytecount.proofs.SumLemmas.{sum_shifted, sum_past}
use Rattle.bytecount.proofs.integer_simd.sum_of_last.Goals as goal

pub returns-then-left-eq0-clause-sum : goal.returns-then-left-eq0-clause-sum
returns-then-left-eq0-clause-sum c = sym (sum_past c.args.values c.args.left (omega arith))

pub returns-clause-sum : goal.returns-clause-sum
returns-clause-sum c = c.sum_usize.ensures.sum ∙ sum_shifted c.args.values c.args.left c.ranges.values.fits (omega arith)
