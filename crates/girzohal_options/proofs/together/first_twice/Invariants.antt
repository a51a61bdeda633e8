-- The texts that are left decide.
use Rattle.std.proofs.Common.{◌≡◌, length, map}
use Rattle.girzohal_options.specs.Together.{first_twice}
use Rattle.girzohal_options.proofs.together.first_twice.Given as goal

abbrev pub invariant-loop-rest : goal.invariant-loop-rest
invariant-loop-rest l = first_twice (map (λ it. it.now) l.rest) ≡ first_twice (map (λ it. it.now) l.texts)

abbrev pub decreases-loop-rest : goal.decreases-loop-rest
decreases-loop-rest l = length l.rest
