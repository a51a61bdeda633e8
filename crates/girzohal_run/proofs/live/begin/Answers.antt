-- The first bytes came, and what is known of them is written; or nothing is.
use Rattle.std.proofs.Common.{[], inl, length, arith}
use Rattle.girzohal_run.proofs.LiveLemmas.{first_came, nothing_heard, nothing_kept}
use Rattle.girzohal_run.specs.Run.{device}
use Rattle.girzohal_run.proofs.live.begin.Goals as goal

pub returns-in-Ok : goal.returns-in-Ok
returns-in-Ok g c = λ input taken.
    let told = g.S.Store.told c.args.store.now in
    let received = g.O.Sink.received c.args.out.now in
    let count = g.O.Sink.faults c.args.out.now in
    let heard = g.E.Sink.received c.args.err.now in
    let failed = g.E.Sink.faults c.args.err.now in
    c.write.ensures told c.args.asked.now input (record { bytes = received; faults = count }) (record { bytes = heard; faults = failed })
    (first_came told c.args.asked.now input received heard count failed c.args.bytes.now c.in-Ok.come (length c.args.bytes.now) taken c.requires.lines
    (c.new.result.held, c.new.result.tally, c.new.ensures told c.args.asked.now) (c.in-Ok.ensures [] [] [] (c.new.ensures told c.args.asked.now)) (omega arith))

pub returns-in-Err : goal.returns-in-Err
returns-in-Err g c = λ input taken.
    let received = g.O.Sink.received c.args.out.now in
    let heard = g.E.Sink.received c.args.err.now in
    let failed = g.E.Sink.faults c.args.err.now in
    c.out_of_memory.ensures (g.S.Store.told c.args.store.now) c.args.asked.now input (device g.O.Sink.received g.O.Sink.faults c.args.out.now c.args.out.now)
    (record { bytes = heard; faults = failed }) (inl (nothing_kept received, nothing_heard heard failed))
