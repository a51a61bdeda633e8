use Rattle.std.proofs.Common.{◌≡◌, ◌+◌, drop}
use Rattle.excerpt_blocks.specs.Below.{state_of, unsaid_from, unsaid_in}
use Rattle.excerpt_blocks.proofs.below.Below.unsaid_over.Given as goal

abbrev pub invariant-loop-mark : goal.invariant-loop-mark
invariant-loop-mark l = record {
  number : l.number ≡ l.self.marks_before + l.mark-index;
  value : unsaid_from l.cell (state_of l.self) l.number (drop l.mark-index l.mark-items) ≡ unsaid_in l.cell (state_of l.self);
}
