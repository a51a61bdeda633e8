-- The names so far are there, and the others come next.
use Rattle.std.proofs.Common.{◌≡◌, ◌++◌, length, map}
use Rattle.std.specs.List.{filter}
use Rattle.girzohal_options.specs.Nearest.{begins}
use Rattle.girzohal_options.proofs.near.beginning.Given as goal

abbrev pub invariant-loop-rest : goal.invariant-loop-rest
invariant-loop-rest l = map (λ it. it.now) l.begun.items ++ filter (begins l.text) (map (λ it. it.now) l.rest) ≡ filter (begins l.text) (map (λ it. it.now) l.names)

abbrev pub decreases-loop-rest : goal.decreases-loop-rest
decreases-loop-rest l = length l.rest
