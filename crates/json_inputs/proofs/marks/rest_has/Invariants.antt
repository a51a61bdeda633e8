-- What was read settles nothing.
use Rattle.std.proofs.Common.{◌≡◌, ◌≤◌, length, false}
use Rattle.json_inputs.specs.Marks.{array_ahead}
use Rattle.json_inputs.proofs.marks.rest_has.Given as goal

abbrev pub invariant-loop-token : goal.invariant-loop-token
invariant-loop-token l = record {
  ahead : array_ahead l.name 1 false l.fn.reader ≡ array_ahead l.name l.depth l.is_named l.reader;
  shallow : l.depth ≤ 128;
}

abbrev pub decreases-loop-token : goal.decreases-loop-token
decreases-loop-token l = length l.reader
