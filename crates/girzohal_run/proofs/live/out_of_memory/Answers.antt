-- What was written stays, and a line says why no more is.
use Rattle.std.proofs.Common.{subst, sym, codes}
use Rattle.girzohal_run.proofs.LiveLemmas.{stays_stopped}
use Rattle.girzohal_run.specs.Live.{Hears}
use Rattle.girzohal_run.specs.Run.{Means, device_since}
use Rattle.girzohal_run.proofs.live.out_of_memory.Goals as goal

pub returns : goal.returns
returns g c = λ told asked input out heard stays.
    let err = device_since g.E.Sink.received g.E.Sink.faults heard c.args.err.now in
    let said = device_since g.E.Sink.received g.E.Sink.faults heard c.say.new.err in
    subst (λ status. Means status asked input told out said) (sym c.say.ensures.status)
    (stays_stopped told asked input out said (Hears c.args.deaf err) (codes "girzohal: out of memory\n") (c.say.ensures.told heard) stays)
