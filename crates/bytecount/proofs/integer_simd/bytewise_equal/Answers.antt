use Rattle.std.proofs.Common.{bit_xor}
use Rattle.bytecount.proofs.FlagLemmas.{equal_bytes, carried_fits}
use Rattle.bytecount.proofs.integer_simd.bytewise_equal.Goals as goal

pub overflow_add-carried : goal.overflow_add-carried
overflow_add-carried c = record { fits = carried_fits (bit_xor c.args.lhs c.args.rhs) }

pub returns : goal.returns
returns c = equal_bytes c.args.lhs c.args.rhs c.ranges.lhs.fits c.ranges.rhs.fits
