-- The best of the names so far.
use Rattle.std.proofs.Common.{take, map}
use Rattle.girzohal_options.proofs.NearLemmas.{IsNear}
use Rattle.girzohal_options.proofs.near.closest.Given as goal

abbrev pub invariant-loop-name : goal.invariant-loop-name
invariant-loop-name l = IsNear (map (λ it. it.now) (take l.name-index l.names)) l.text l.near
