-- What is left, after what was read.
use Rattle.std.proofs.Common.{◌≡◌, ◌-◌, ◌+◌, length}
use Rattle.xml_values.specs.Text.{read_after, text_after}
use Rattle.xml_values.proofs.text.push_text.Given as goal

abbrev pub invariant-loop-turn : goal.invariant-loop-turn
invariant-loop-turn l = text_after l.in_attribute l.initial.out.items l.text ≡ read_after (length l.text + 1 - l._turn) l.in_attribute l.out.items l.rest
