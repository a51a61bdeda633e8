use Rattle.bytecount.proofs.LaneLemmas.{equal_lanes}
use Rattle.oxc_windows.proofs.endings.feeds_at.Goals as goal

pub returns : goal.returns
returns c = equal_lanes c.args.above 253 c.fits-above.0
