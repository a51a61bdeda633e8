-- What is left.
use Rattle.std.proofs.Common.{◌≡◌, ◌+◌, ◌-◌, length}
use Rattle.xml_values.specs.Document.{past_misc, skipped}
use Rattle.xml_values.proofs.document.skip_misc.Given as goal

abbrev pub invariant-loop-turn : goal.invariant-loop-turn
invariant-loop-turn l = past_misc l.bytes ≡ skipped (length l.bytes + 1 - l._turn) l.rest
