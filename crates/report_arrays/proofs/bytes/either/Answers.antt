use Rattle.std.proofs.Common.{sym, ◌∙◌}
use Rattle.report_arrays.proofs.Ascii.{either_ascii}
use Rattle.report_arrays.proofs.bytes.either.Goals as goal

pub returns : goal.returns
returns c = either_ascii c.args.lanes c.args.others (c.fits-lanes.0 ∙ sym c.fits-others.0)
