-- No link begins before what is left.
use Rattle.std.proofs.Common.{◌≡◌, length}
use Rattle.drawn_lines.specs.Lines.{holds_link}
use Rattle.drawn_lines.proofs.kept.holds_link.Given as goal

abbrev pub invariant-loop-rest : goal.invariant-loop-rest
invariant-loop-rest l = holds_link l.rest ≡ holds_link l.line

abbrev pub decreases-loop-rest : goal.decreases-loop-rest
decreases-loop-rest l = length l.rest
