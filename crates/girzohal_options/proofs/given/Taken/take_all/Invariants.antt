-- The items so far are taken, and those that are left decide.
use Rattle.std.proofs.Common.{drop, map}
use Rattle.girzohal_options.specs.Said.{said}
use Rattle.girzohal_options.proofs.GivenLemmas.{StillTakes}
use Rattle.girzohal_options.proofs.given.Taken.take_all.Given as goal

abbrev pub invariant-loop-item : goal.invariant-loop-item
invariant-loop-item l = StillTakes l.program l.initial.self l.self (map said l.items) (map said (drop l.item-index l.items))
