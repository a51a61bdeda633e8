use Rattle.std.proofs.Common.{◌≡◌, drop}
use Rattle.std.specs.List.{list_any}
use Rattle.excerpt_blocks.specs.Labels.{is_first_mark}
use Rattle.excerpt_blocks.proofs.labels.has_first.Given as goal

abbrev pub invariant-loop-mark : goal.invariant-loop-mark
invariant-loop-mark l = list_any is_first_mark (drop l.mark-index l.marks) ≡ list_any is_first_mark l.marks
