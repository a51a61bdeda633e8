use Rattle.bytecount.proofs.FlagLemmas.{leading_flags}
use Rattle.bytecount.proofs.integer_simd.is_leading_utf8_byte.Goals as goal

pub returns : goal.returns
returns c = leading_flags c.args.values c.ranges.values.fits
