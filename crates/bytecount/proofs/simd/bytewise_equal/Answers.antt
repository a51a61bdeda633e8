use Rattle.bytecount.proofs.LaneLemmas.{equal_lanes}
use Rattle.bytecount.proofs.simd.bytewise_equal.Goals as goal

pub returns : goal.returns
returns c = equal_lanes c.args.bytes c.args.needle c.fits-bytes.0
