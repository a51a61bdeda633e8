use Rattle.std.proofs.Common.{◌≡◌, None, map, length}
use Rattle.excerpt_texts.specs.Lines.{indent_from}
use Rattle.excerpt_texts.proofs.lines.indent_of.Given as goal

abbrev pub invariant-loop-lines : goal.invariant-loop-lines
invariant-loop-lines l = indent_from l.least (map (λ line. line.now) l.lines) ≡ indent_from None (map (λ line. line.now) l.initial.lines)

abbrev pub decreases-loop-lines : goal.decreases-loop-lines
decreases-loop-lines l = length l.lines
