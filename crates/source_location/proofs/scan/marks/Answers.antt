use Rattle.source_location.proofs.ScanLemmas.{marks_are}
use Rattle.source_location.proofs.scan.marks.Goals as goal

pub returns : goal.returns
returns c lane = marks_are c.args.lanes lane c.fits-lanes.0
