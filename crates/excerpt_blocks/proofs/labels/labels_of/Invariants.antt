use Rattle.std.proofs.Common.{◌≡◌, ◌++◌, drop}
use Rattle.excerpt_blocks.specs.Labels.{rows_labels}
use Rattle.excerpt_blocks.specs.Below.{state_of}
use Rattle.excerpt_blocks.proofs.labels.labels_of.Given as goal

abbrev pub invariant-loop-k : goal.invariant-loop-k
invariant-loop-k l = l.labels.items ++ rows_labels l.strong l.spot (state_of l.below) (drop l.k l.below.rows.items) ≡ rows_labels l.strong l.spot (state_of l.below) l.below.rows.items
