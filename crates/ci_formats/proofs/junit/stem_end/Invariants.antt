use Rattle.ci_formats.proofs.StemLemmas.{IsStem}
use Rattle.ci_formats.proofs.junit.stem_end.Given as goal

abbrev pub invariant-loop-index : goal.invariant-loop-index
invariant-loop-index l = IsStem l.bytes l.index l.named
