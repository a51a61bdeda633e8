use Rattle.std.proofs.Common.{◌≡◌, ◌+◌, drop}
use Rattle.excerpt_blocks.specs.Below.{any_from, any_in, state_of}
use Rattle.excerpt_blocks.proofs.below.Below.any_over.Given as goal

abbrev pub invariant-loop-mark : goal.invariant-loop-mark
invariant-loop-mark l = record {
  number : l.number ≡ l.self.marks_before + l.mark-index;
  value : any_from l.cell l.number (drop l.mark-index l.mark-items) ≡ any_in l.cell (state_of l.self);
}
