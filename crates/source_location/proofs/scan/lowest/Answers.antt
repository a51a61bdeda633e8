use Rattle.std.proofs.Common.{w64, arith}
use Rattle.std.proofs.lemmas.Nat.Bits.{bit_at-trailing_zeros}
use Rattle.source_location.proofs.scan.lowest.Goals as goal

pub returns-clause-set : goal.returns-clause-set
returns-clause-set c = (bit_at-trailing_zeros w64 c.args.marked (omega (arith, c.requires)) c.ranges.marked.fits).1

pub returns-clause-below : goal.returns-clause-below
returns-clause-below c = (bit_at-trailing_zeros w64 c.args.marked (omega (arith, c.requires)) c.ranges.marked.fits).2
