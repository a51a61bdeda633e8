-- All texts are looked at.
use Rattle.std.proofs.Common.{arith}
use Rattle.finding_laws.proofs.LogLemmas.Small.{all_sources, more_sources}
use Rattle.finding_laws.proofs.logs.look_at.Goals as goal

pub loop-index-preserved : goal.loop-index-preserved
loop-index-preserved c =
    more_sources c.args.files.now c.loop-index.index c.in-Some.file (omega (arith, c.loop-index-test.true, c.len-index-end.ensures.len)) c.in-Some.ensures.1 c.loop-index.invariant
    c.look_at_text.ensures

pub returns-clause-sources : goal.returns-clause-sources
returns-clause-sources c =
    all_sources c.args.files.now c.loop-index.index (omega (arith, c.loop-index-test.false, c.len-index-end.ensures.len)) c.loop-index.invariant
