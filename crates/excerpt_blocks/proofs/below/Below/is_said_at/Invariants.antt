use Rattle.std.proofs.Common.{◌≡◌, drop}
use Rattle.std.specs.List.{list_any}
use Rattle.excerpt_blocks.specs.Below.{is_said_at, is_text_at, state_of}
use Rattle.excerpt_blocks.proofs.below.Below.is_said_at.Given as goal

abbrev pub invariant-loop-text : goal.invariant-loop-text
invariant-loop-text l = list_any (is_text_at l.hang) (drop l.text-index l.text-items) ≡ is_said_at l.hang (state_of l.self)
