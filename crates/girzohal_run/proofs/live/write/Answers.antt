-- What came was written, or a first part of it, behind what stands aside.
use Rattle.std.proofs.Common.{inr}
use Rattle.girzohal_run.proofs.LiveLemmas.{came_goes, came_part}
use Rattle.girzohal_run.specs.Run.{device_since}
use Rattle.girzohal_run.proofs.live.write.Goals as goal

pub returns-in-Ok : goal.returns-in-Ok
returns-in-Ok g c = λ told asked input wrote heard came.
    let now = c.write_all.new.sink in
    let out = device_since g.O.Sink.received g.O.Sink.faults wrote c.args.out.now in
    let err = device_since g.E.Sink.received g.E.Sink.faults heard c.args.err.now in
    let said = device_since g.E.Sink.received g.E.Sink.faults heard c.hear-deaf.new.err in
    c.limited.ensures told asked input (device_since g.O.Sink.received g.O.Sink.faults wrote now) heard
    (came_goes told asked input out err said (g.O.Sink.received now) (g.O.Sink.faults now) c.args.quiet c.quiet_behind-quiet.result c.args.come c.args.deaf c.hear-deaf.result came
    c.quiet_behind-quiet.ensures (rw c.as_bytes.ensures.value at c.in-Ok.ensures.whole) c.in-Ok.ensures.cause.later (rw c.as_str.ensures.value at c.hear-deaf.ensures heard))

pub returns : goal.returns
returns g c = λ told asked input wrote heard came.
    let now = c.write_all.new.sink in
    let out = device_since g.O.Sink.received g.O.Sink.faults wrote c.args.out.now in
    let err = device_since g.E.Sink.received g.E.Sink.faults heard c.args.err.now in
    let said = device_since g.E.Sink.received g.E.Sink.faults heard c.hear-deaf.new.err in
    inr (came_part told asked input out err said (g.O.Sink.received now) (g.O.Sink.faults now) c.args.quiet c.args.come c.args.deaf c.hear-deaf.result came
    (rw c.as_bytes.ensures.value at c.in-Err.ensures.part) c.in-Err.ensures.cause.failed (rw c.as_str.ensures.value at c.hear-deaf.ensures heard))
