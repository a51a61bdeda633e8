use Rattle.std.proofs.Common.{◌-◌, length}
use Rattle.excerpt_lines.proofs.TextLemmas.{TextSoFar}
use Rattle.excerpt_lines.proofs.items.text_end.Given as goal

abbrev pub invariant-loop-end : goal.invariant-loop-end
invariant-loop-end l = TextSoFar l.line l.hung l.start l.end

abbrev pub decreases-loop-end : goal.decreases-loop-end
decreases-loop-end l = length l.line - l.end
