-- No brace opens a line before.
use Rattle.std.proofs.Common.{◌≢◌, ℕ, ◌<◌, true}
use Rattle.sarif_log.specs.Cut.{opens}
use Rattle.sarif_log.proofs.cut.first_opening.Given as goal

abbrev pub invariant-loop-at : goal.invariant-loop-at
invariant-loop-at l = (k : ℕ) → k < l.at → opens l.bytes k ≢ true
