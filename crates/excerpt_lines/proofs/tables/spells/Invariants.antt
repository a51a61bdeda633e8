use Rattle.std.proofs.Common.{◌≡◌, length}
use Rattle.excerpt_lines.specs.Tables.{spells as is_spelled}
use Rattle.excerpt_lines.proofs.tables.spells.Given as goal

abbrev pub invariant-loop-word : goal.invariant-loop-word
invariant-loop-word l = is_spelled l.text l.word ≡ is_spelled l.initial.text l.initial.word

abbrev pub decreases-loop-word : goal.decreases-loop-word
decreases-loop-word l = length l.word
