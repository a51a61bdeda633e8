-- What begins as lines that come goes on so; an input that never comes doesn't begin so.
use Rattle.std.proofs.Common.{inl, subst, sym}
use Rattle.girzohal_run.proofs.LiveLemmas.{comes_never, nothing_kept}
use Rattle.girzohal_run.specs.Run.{Means, device}
use Rattle.girzohal_run.proofs.program.run.Goals as goal

pub returns-in-Lines-clause-means : goal.returns-in-Lines-clause-means
returns-in-Lines-clause-means g c =
    (rw c.deref.ensures.value at c.run_lines.ensures) (record { bytes = g.I.Source.left c.args.input.now; faults = g.I.Source.faults c.args.input.now })
    c.in-Lines.ensures.opens.0 c.in-Lines.ensures.cause

pub returns-in-Lines-clause-untouched : goal.returns-in-Lines-clause-untouched
returns-in-Lines-clause-untouched g c = λ never.
    comes_never c.args.asked.now (g.I.Source.left c.args.input.now) (g.I.Source.left c.open.new.input) c.in-Lines.bytes.items c.in-Lines.ensures.opens.0
    c.in-Lines.ensures.opens.2 never

pub returns-in-Whole-clause-means : goal.returns-in-Whole-clause-means
returns-in-Whole-clause-means g c =
    c.run_whole.ensures.means (record { bytes = g.I.Source.left c.args.input.now; faults = g.I.Source.faults c.args.input.now })
    c.in-Whole.ensures.opens.0 c.in-Whole.ensures.cause

pub returns-in-TooLong-clause-means : goal.returns-in-TooLong-clause-means
returns-in-TooLong-clause-means g c =
    let past = c.in-TooLong.ensures.opens in
    let input = device g.I.Source.left g.I.Source.faults c.args.input.now c.open.new.input in
    let out = device g.O.Sink.received g.O.Sink.faults c.args.out.now c.args.out.now in
    subst (λ status. Means status c.args.asked.now input (g.S.Store.told c.args.store.now) out
    (device g.E.Sink.received g.E.Sink.faults c.args.err.now c.fail.new.err)) (sym c.fail.ensures.status)
    (inl (record { bytes = past.0; taken = past.2; past = past.1 }, nothing_kept (g.O.Sink.received c.args.out.now), c.fail.ensures.told))
