-- Fewer steps are left.
use Rattle.std.proofs.Common.{length}
use Rattle.sarif_log.proofs.top.+path_text.Given as goal

abbrev pub decreases-path_text : goal.decreases-path_text
decreases-path_text l = length l.steps.now
