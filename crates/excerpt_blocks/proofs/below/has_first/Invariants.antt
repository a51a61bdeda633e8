use Rattle.std.proofs.Common.{◌≡◌, drop}
use Rattle.std.specs.List.{list_any}
use Rattle.excerpt_blocks.specs.Below.{is_first_char}
use Rattle.excerpt_blocks.proofs.below.has_first.Given as goal

abbrev pub invariant-loop-c : goal.invariant-loop-c
invariant-loop-c l = list_any is_first_char (drop l.c-index l.marks) ≡ list_any is_first_char l.marks
