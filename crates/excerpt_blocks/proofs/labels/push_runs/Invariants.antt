use Rattle.std.proofs.Common.{◌≡◌, ◌++◌, None, drop}
use Rattle.excerpt_blocks.specs.Labels.{begun_from, labels_from}
use Rattle.excerpt_blocks.proofs.labels.push_runs.Given as goal

abbrev pub invariant-loop-run : goal.invariant-loop-run
invariant-loop-run l = l.labels.items ++ labels_from l.strong l.texts (begun_from l.before (drop l.run-index l.runs)) ≡ l.initial.labels.items ++ labels_from l.strong l.texts (begun_from None l.runs)
