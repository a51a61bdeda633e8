use Rattle.std.proofs.Common.{w8}
use Rattle.std.proofs.lemmas.Simd.{below_from_Fits}
use Rattle.oxc_windows.proofs.EndingsLemmas.{less_returns, less_feeds}
use Rattle.oxc_windows.proofs.endings.less_return.Goals as goal

pub returns-clause-returns : goal.returns-clause-returns
returns-clause-returns c = less_returns c.args.bytes c.fits-bytes.0 (below_from_Fits w8 c.args.bytes c.fits-bytes.1)

pub returns-clause-feeds : goal.returns-clause-feeds
returns-clause-feeds c = less_feeds c.args.bytes c.fits-bytes.0 (below_from_Fits w8 c.args.bytes c.fits-bytes.1)
