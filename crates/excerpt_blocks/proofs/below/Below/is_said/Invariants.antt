use Rattle.std.proofs.Common.{◌≡◌, drop}
use Rattle.std.specs.List.{list_any}
use Rattle.excerpt_blocks.specs.Below.{is_of, is_said, state_of}
use Rattle.excerpt_blocks.proofs.below.Below.is_said.Given as goal

abbrev pub invariant-loop-text : goal.invariant-loop-text
invariant-loop-text l = list_any (is_of l.mark) (drop l.text-index l.text-items) ≡ is_said l.mark (state_of l.self)
