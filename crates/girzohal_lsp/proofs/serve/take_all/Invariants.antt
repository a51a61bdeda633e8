use Rattle.std.proofs.Common.{length, ◌-◌, ◌≤◌}
use Rattle.girzohal_lsp.proofs.serve.take_all.Given as goal

abbrev pub invariant-loop-used : goal.invariant-loop-used
invariant-loop-used g l = l.used ≤ length l.bytes

abbrev pub decreases-loop-used : goal.decreases-loop-used
decreases-loop-used g l = length l.bytes - l.used
