use Rattle.oxc_windows.proofs.EndingsLemmas.{zero_lanes}
use Rattle.oxc_windows.proofs.endings.has_zero.Goals as goal

pub returns : goal.returns
returns c = zero_lanes c.args.values c.fits-values.0
