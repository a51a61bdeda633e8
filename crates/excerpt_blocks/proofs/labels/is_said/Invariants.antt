use Rattle.std.proofs.Common.{◌≡◌, drop}
use Rattle.std.specs.List.{list_any}
use Rattle.excerpt_blocks.specs.Below.{is_of}
use Rattle.excerpt_blocks.proofs.labels.is_said.Given as goal

abbrev pub invariant-loop-text : goal.invariant-loop-text
invariant-loop-text l = list_any (is_of l.mark) (drop l.text-index l.texts) ≡ list_any (is_of l.mark) l.texts
