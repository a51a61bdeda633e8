-- At most one for each row before.
use Rattle.std.proofs.Common.{◌≤◌}
use Rattle.json_forms.proofs.refusal.misses.Given as goal

abbrev pub invariant-loop-row : goal.invariant-loop-row
invariant-loop-row l = l.missed ≤ l.row-index
