-- Fewer steps are left.
use Rattle.std.proofs.Common.{length}
use Rattle.json_spots.proofs.said.+lead.Given as goal

abbrev pub decreases-lead : goal.decreases-lead
decreases-lead l = length l.steps.now
