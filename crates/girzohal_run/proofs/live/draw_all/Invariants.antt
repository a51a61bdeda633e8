-- What was taken was written as far as it is known.
use Rattle.std.proofs.Common.{◌≤◌}
use Rattle.girzohal_run.specs.Run.{Since, device_since}
use Rattle.girzohal_run.specs.Live.{Goes}
use Rattle.girzohal_run.proofs.live.draw_all.Given as goal

abbrev pub invariant-loop : goal.invariant-loop
invariant-loop g l =
    (taken wrote heard : Since)
    → Goes (g.S.Store.told l.store) l.asked (device_since g.I.Source.left g.I.Source.faults taken l.initial.input)
    (device_since g.O.Sink.received g.O.Sink.faults wrote l.initial.out) (device_since g.E.Sink.received g.E.Sink.faults heard l.initial.err) l.initial.live
    → taken.faults ≤ g.I.Source.faults l.initial.input
    → Goes (g.S.Store.told l.store) l.asked (device_since g.I.Source.left g.I.Source.faults taken l.input)
    (device_since g.O.Sink.received g.O.Sink.faults wrote l.out) (device_since g.E.Sink.received g.E.Sink.faults heard l.err) l.live
    × (taken.faults ≤ g.I.Source.faults l.input)
