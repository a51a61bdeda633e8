-- The outputs before are made.
use Rattle.std.proofs.Common.{◌≡◌, map, take}
use Rattle.girzohal_run.specs.Each.{AreMade}
use Rattle.girzohal_run.specs.Run.{texts_of}
use Rattle.girzohal_run.proofs.each.make_each.Given as goal

abbrev pub invariant-loop-it : goal.invariant-loop-it
invariant-loop-it g l = record {
  asked : l.asked ≡ record l.initial.asked { to = l.asked.to; theme = l.asked.theme };
  made : AreMade (g.S.Store.told l.store) l.initial.asked l.bytes (take l.it-index l.wanted) (map texts_of l.all.items);
}
