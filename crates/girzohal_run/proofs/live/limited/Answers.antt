-- Too much came.
use Rattle.std.proofs.Common.{inr, subst, sym, arith}
use Rattle.girzohal_run.proofs.LiveLemmas.{outgrew}
use Rattle.girzohal_run.specs.Run.{Means, device_since, too_long_line}
use Rattle.girzohal_run.proofs.live.limited.Goals as goal

pub returns-then-live-gt-LIMIT : goal.returns-then-live-gt-LIMIT
returns-then-live-gt-LIMIT g c = λ told asked input out heard goes.
    let err = device_since g.E.Sink.received g.E.Sink.faults heard c.args.err.now in
    let said = device_since g.E.Sink.received g.E.Sink.faults heard c.say.new.err in
    subst (λ status. Means status asked input told out said) (sym c.say.ensures.status)
    (inr (outgrew told asked input out err said too_long_line c.args.live goes (omega (arith, c.if-live-gt-LIMIT.true)) (c.say.ensures.told heard)))
