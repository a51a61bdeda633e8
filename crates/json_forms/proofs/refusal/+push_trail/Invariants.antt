-- Fewer values are left.
use Rattle.std.proofs.Common.{length}
use Rattle.json_forms.proofs.refusal.+push_trail.Given as goal

abbrev pub decreases-push_trail : goal.decreases-push_trail
decreases-push_trail l = length l.crumbs.now
