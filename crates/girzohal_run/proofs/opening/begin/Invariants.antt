-- The bytes so far came from the input, and are at most the limit.
use Rattle.std.proofs.Common.{◌+◌, ◌-◌, ◌≤◌, length}
use Rattle.std.specs.Io.KnownBytes.{Consumes}
use Rattle.girzohal_run.specs.Run.{limit}
use Rattle.girzohal_run.proofs.opening.begin.Given as goal

abbrev pub invariant-loop-bytes : goal.invariant-loop-bytes
invariant-loop-bytes g l = record {
  taken : Consumes (g.I.Source.left l.initial.input) (g.I.Source.left l.input) l.bytes.items;
  within : length l.bytes.items ≤ limit;
  later : g.I.Source.faults l.initial.input ≤ g.I.Source.faults l.input;
}

abbrev pub decreases-loop-bytes : goal.decreases-loop-bytes
decreases-loop-bytes g l = limit + 1 - length l.bytes.items
