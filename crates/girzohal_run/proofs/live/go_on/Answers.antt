-- The bytes came, and what is known of them is written; or what was written stays.
use Rattle.std.proofs.Common.{inr, arith}
use Rattle.girzohal_run.proofs.LiveLemmas.{goes_came, went_drew}
use Rattle.girzohal_run.specs.Live.{device_on}
use Rattle.girzohal_run.specs.Run.{device_since}
use Rattle.girzohal_run.proofs.live.go_on.Goals as goal

pub returns-in-Ok : goal.returns-in-Ok
returns-in-Ok g c = λ input next faults wrote heard goes taken.
    let told = g.S.Store.told c.args.store.now in
    let out = device_since g.O.Sink.received g.O.Sink.faults wrote c.args.out.now in
    let err = device_since g.E.Sink.received g.E.Sink.faults heard c.args.err.now in
    c.write.ensures told c.args.asked.now (device_on input next faults) wrote heard
    (goes_came told c.args.asked.now input out err next faults c.args.bytes.now c.args.live c.in-Ok.come c.saturating_add.result goes taken c.in-Ok.ensures
    (omega (arith, c.saturating_add.ensures)))

pub returns-in-Err : goal.returns-in-Err
returns-in-Err g c = λ input next faults wrote heard goes taken.
    let told = g.S.Store.told c.args.store.now in
    let out = device_since g.O.Sink.received g.O.Sink.faults wrote c.args.out.now in
    let err = device_since g.E.Sink.received g.E.Sink.faults heard c.args.err.now in
    c.out_of_memory.ensures told c.args.asked.now (device_on input next faults) out heard
    (inr (went_drew told c.args.asked.now input out err next faults c.args.bytes.now c.args.live goes taken))
