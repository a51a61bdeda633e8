-- The characters kept so far, and those that are left.
use Rattle.std.proofs.Common.{◌≡◌, ◌++◌, length}
use Rattle.harmless.specs.Paint.{painted_from}
use Rattle.harmless.proofs.paint.painted.Given as goal

abbrev pub invariant-loop-rest : goal.invariant-loop-rest
invariant-loop-rest l = l.kept.items ++ painted_from l.left l.rest ≡ painted_from 0 l.text

abbrev pub decreases-loop-rest : goal.decreases-loop-rest
decreases-loop-rest l = length l.rest
