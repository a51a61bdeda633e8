-- What is left was written, or a first part of it, behind what stands aside.
use Rattle.std.proofs.Common.{inl, inr, true, false, string_bytes}
use Rattle.girzohal_run.proofs.LiveLemmas.{ended_part, ended_sent, goes_drew}
use Rattle.girzohal_run.specs.Run.{device_since}
use Rattle.girzohal_run.proofs.live.end.Goals as goal

pub returns-in-Err : goal.returns-in-Err
returns-in-Err g c = λ input wrote heard goes ended.
    let told = g.S.Store.told c.args.store.now in
    let out = device_since g.O.Sink.received g.O.Sink.faults wrote c.args.out.now in
    let err = device_since g.E.Sink.received g.E.Sink.faults heard c.args.err.now in
    c.out_of_memory.ensures told c.args.asked.now input out heard (inr (goes_drew told c.args.asked.now input out err c.args.live goes))

pub returns-in-Ok-write_all : goal.returns-in-Ok-write_all
returns-in-Ok-write_all g c = λ input wrote heard goes ended.
    let now = c.write_all.new.sink in
    ended_sent (g.S.Store.told c.args.store.now) c.args.asked.now input (device_since g.O.Sink.received g.O.Sink.faults wrote c.args.out.now)
    (device_since g.E.Sink.received g.E.Sink.faults heard c.args.err.now) (device_since g.E.Sink.received g.E.Sink.faults heard c.hear-deaf.new.err)
    (g.O.Sink.received now) (g.O.Sink.faults now) c.args.live (string_bytes c.in-Ok.ended.text) (string_bytes c.in-Ok.ended.aside) c.in-Ok.ended.reached true c.hear-deaf.result
    goes ended c.in-Ok.ensures c.if-reached.true (rw c.as_bytes.ensures.value at c.in-Ok-write_all.ensures.whole) (rw c.as_str.ensures.value at c.hear-deaf.ensures heard)

pub returns-in-Ok-2 : goal.returns-in-Ok-2
returns-in-Ok-2 g c = λ input wrote heard goes ended.
    let now = c.write_all.new.sink in
    ended_sent (g.S.Store.told c.args.store.now) c.args.asked.now input (device_since g.O.Sink.received g.O.Sink.faults wrote c.args.out.now)
    (device_since g.E.Sink.received g.E.Sink.faults heard c.args.err.now) (device_since g.E.Sink.received g.E.Sink.faults heard c.hear-deaf.new.err)
    (g.O.Sink.received now) (g.O.Sink.faults now) c.args.live (string_bytes c.in-Ok.ended.text) (string_bytes c.in-Ok.ended.aside) c.in-Ok.ended.reached false c.hear-deaf.result
    goes ended c.in-Ok.ensures c.if-reached.false (rw c.as_bytes.ensures.value at c.in-Ok-2.ensures.whole) (rw c.as_str.ensures.value at c.hear-deaf.ensures heard)

pub returns : goal.returns
returns g c = λ input wrote heard goes ended.
    let now = c.write_all.new.sink in
    inl (ended_part (g.S.Store.told c.args.store.now) c.args.asked.now input (device_since g.O.Sink.received g.O.Sink.faults wrote c.args.out.now)
    (device_since g.E.Sink.received g.E.Sink.faults heard c.args.err.now) (device_since g.E.Sink.received g.E.Sink.faults heard c.hear-deaf.new.err)
    (g.O.Sink.received now) (g.O.Sink.faults now) c.args.live (string_bytes c.in-Ok.ended.text) (string_bytes c.in-Ok.ended.aside) c.in-Ok.ended.reached c.hear-deaf.result
    goes ended c.in-Ok.ensures (rw c.as_bytes.ensures.value at c.in-Err-write_all.ensures.part) c.in-Err-write_all.ensures.cause.failed
    (rw c.as_str.ensures.value at c.hear-deaf.ensures heard))
