use Rattle.std.proofs.Common.{◌≡◌, ◌++◌, drop}
use Rattle.excerpt_blocks.specs.declared.labels.Phase.TheVariants.{First}
use Rattle.excerpt_blocks.specs.Labels.{overlaid_from}
use Rattle.excerpt_blocks.proofs.labels.overlaid.Given as goal

abbrev pub invariant-loop-k : goal.invariant-loop-k
invariant-loop-k l = l.out.items ++ overlaid_from l.phase (drop l.k l.runs) ≡ overlaid_from First l.runs
