use Rattle.std.proofs.Common.{◌≡◌, ◌++◌, [], take, drop}
use Rattle.excerpt_blocks.specs.Labels.{parts_from}
use Rattle.excerpt_blocks.proofs.labels.push_run.Given as goal

abbrev pub invariant-loop-k : goal.invariant-loop-k
invariant-loop-k l = l.labels.items ++ parts_from l.strong l.run l.texts (take l.k l.texts) (drop l.k l.texts) ≡ l.initial.labels.items ++ parts_from l.strong l.run l.texts [] l.texts
