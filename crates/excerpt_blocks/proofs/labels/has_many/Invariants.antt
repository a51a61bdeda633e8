use Rattle.std.proofs.Common.{◌≡◌, drop}
use Rattle.excerpt_blocks.specs.Labels.{has_many, many_from}
use Rattle.excerpt_blocks.proofs.labels.has_many.Given as goal

abbrev pub invariant-loop-text : goal.invariant-loop-text
invariant-loop-text l = many_from l.run l.texts (drop l.text-index l.texts) ≡ has_many l.run l.texts
