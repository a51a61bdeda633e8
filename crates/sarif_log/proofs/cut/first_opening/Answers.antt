-- None before the end, and none past it.
use Rattle.std.proofs.Common.{arith}
use Rattle.sarif_log.proofs.CutLemmas.{opens_within}
use Rattle.sarif_log.proofs.cut.first_opening.Goals as goal

pub returns : goal.returns
returns c = λ k opened. let within = opens_within _ k opened in c.loop-at.invariant k (omega (arith, within)) opened
