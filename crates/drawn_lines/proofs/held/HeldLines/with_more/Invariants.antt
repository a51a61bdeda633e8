-- The same lines are to come of what is left.
use Rattle.std.proofs.Common.{◌≡◌, ◌++◌, ℕ, List, length}
use Rattle.drawn_lines.specs.Text.{AreRead, goes_on}
use Rattle.drawn_lines.proofs.held.HeldLines.with_more.Given as goal

abbrev pub invariant-loop-part : goal.invariant-loop-part
invariant-loop-part l =
    ((more : List ℕ) → goes_on l.held (l.rest ++ more) ≡ goes_on l.initial.held (l.initial.rest ++ more)) × (AreRead l.initial.held → AreRead l.held) × (l.held.begun ≡ l.initial.held.begun)

abbrev pub decreases-loop-part : goal.decreases-loop-part
decreases-loop-part l = length l.rest
