use Rattle.std.proofs.Common.{w8}
use Rattle.std.proofs.lemmas.Simd.{below_from_Fits}
use Rattle.bytecount.proofs.LaneLemmas.{leading_lanes}
use Rattle.bytecount.proofs.simd.is_leading_utf8_byte.Goals as goal

pub returns : goal.returns
returns c = leading_lanes c.args.bytes c.fits-bytes.0 (below_from_Fits w8 c.args.bytes c.fits-bytes.1)
