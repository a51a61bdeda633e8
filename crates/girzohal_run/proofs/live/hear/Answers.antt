-- One that failed is told nothing; else it hears the text, or fails.
use Rattle.girzohal_run.proofs.LiveLemmas.{hears_no_more, hears_on, hears_part}
use Rattle.girzohal_run.specs.Run.{device_since}
use Rattle.girzohal_run.proofs.live.hear.Goals as goal

pub returns-then-deaf : goal.returns-then-deaf
returns-then-deaf g c = λ heard before hears.
    hears_no_more c.args.deaf (device_since g.E.Sink.received g.E.Sink.faults heard c.args.err.now) before c.args.text.now c.if-deaf.true hears

pub returns-in-Ok : goal.returns-in-Ok
returns-in-Ok g c = λ heard before hears.
    let now = c.write_all.new.sink in
    hears_on c.args.deaf (device_since g.E.Sink.received g.E.Sink.faults heard c.args.err.now) (g.E.Sink.received now) (g.E.Sink.faults now) before c.args.text.now
    c.if-deaf.false hears (rw c.as_bytes.ensures.value at c.in-Ok.ensures.whole) c.in-Ok.ensures.cause.later

pub returns-in-Err : goal.returns-in-Err
returns-in-Err g c = λ heard before hears.
    let now = c.write_all.new.sink in
    hears_part c.args.deaf (device_since g.E.Sink.received g.E.Sink.faults heard c.args.err.now) (g.E.Sink.received now) (g.E.Sink.faults now) before c.args.text.now
    c.if-deaf.false hears (rw c.as_bytes.ensures.value at c.in-Err.ensures.part) c.in-Err.ensures.cause.failed
