use Rattle.std.proofs.Common.{◌≡◌, ◌+◌, ◌++◌, drop}
use Rattle.excerpt_blocks.specs.Labels.{runs_from}
use Rattle.excerpt_blocks.proofs.labels.runs_of.Given as goal

abbrev pub invariant-loop-mark : goal.invariant-loop-mark
invariant-loop-mark l = record {
  number : l.number ≡ l.row.marks + l.mark-index;
  value : l.runs.items ++ runs_from l.spot l.row l.texts l.number (drop l.mark-index l.marks) ≡ runs_from l.spot l.row l.texts l.row.marks l.marks;
}
