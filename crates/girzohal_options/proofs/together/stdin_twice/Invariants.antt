-- The items that are left decide.
use Rattle.std.proofs.Common.{◌≡◌, length, map}
use Rattle.girzohal_options.specs.Said.{said}
use Rattle.girzohal_options.specs.Together.{stdin_twice}
use Rattle.girzohal_options.proofs.together.stdin_twice.Given as goal

abbrev pub invariant-loop-rest : goal.invariant-loop-rest
invariant-loop-rest l = stdin_twice (map said l.rest) ≡ stdin_twice (map said l.items)

abbrev pub decreases-loop-rest : goal.decreases-loop-rest
decreases-loop-rest l = length l.rest
