use Rattle.std.proofs.Common.{◌≡◌, drop}
use Rattle.std.specs.List.{list_any}
use Rattle.excerpt_blocks.specs.Labels.{is_elsewhere}
use Rattle.excerpt_blocks.proofs.labels.hangs_elsewhere.Given as goal

abbrev pub invariant-loop-text : goal.invariant-loop-text
invariant-loop-text l = list_any (is_elsewhere l.run l.cell) (drop l.text-index l.texts) ≡ list_any (is_elsewhere l.run l.cell) l.texts
