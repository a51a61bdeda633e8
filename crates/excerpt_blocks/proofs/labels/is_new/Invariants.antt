use Rattle.std.proofs.Common.{◌≡◌, drop}
use Rattle.std.specs.List.{list_any}
use Rattle.excerpt_blocks.specs.Labels.{is_at}
use Rattle.excerpt_blocks.proofs.labels.is_new.Given as goal

abbrev pub invariant-loop-other : goal.invariant-loop-other
invariant-loop-other l = list_any (is_at l.run l.text.cell) (drop l.other-index l.earlier) ≡ list_any (is_at l.run l.text.cell) l.earlier
