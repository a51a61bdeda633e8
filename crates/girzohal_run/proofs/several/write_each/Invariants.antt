-- The outputs before are made.
use Rattle.std.proofs.Common.{◌≡◌, map, take}
use Rattle.girzohal_run.specs.Run.{texts_of}
use Rattle.girzohal_run.specs.Several.{AreWritten}
use Rattle.girzohal_run.specs.Joined.{finds_parts}
use Rattle.girzohal_run.proofs.several.write_each.Given as goal

abbrev pub invariant-loop-it : goal.invariant-loop-it
invariant-loop-it l = record {
  asked : l.asked ≡ record l.initial.asked { to = l.asked.to; theme = l.asked.theme };
  written : AreWritten l.initial.asked l.notes (map finds_parts l.finds) (take l.it-index l.wanted) (map texts_of l.all.items);
}
