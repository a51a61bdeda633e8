use Rattle.std.proofs.Common.{◌≡◌, drop}
use Rattle.excerpts.specs.Cuts.{is_straight}
use Rattle.excerpts.proofs.cuts.is_straight.Given as goal

abbrev pub invariant-loop-line : goal.invariant-loop-line
invariant-loop-line l = is_straight l.bar (drop l.line-index l.lines) ≡ is_straight l.initial.bar l.lines
