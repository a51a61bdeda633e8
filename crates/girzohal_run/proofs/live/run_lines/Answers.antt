-- What is known of the first bytes was written, and then the rest is.
use Rattle.girzohal_run.specs.Run.{Since}
use Rattle.girzohal_run.proofs.live.run_lines.Goals as goal

pub returns-in-Ok-begin : goal.returns-in-Ok-begin
returns-in-Ok-begin g c = λ since taken later.
    let wrote : Since = record { bytes = g.O.Sink.received c.args.out.now; faults = g.O.Sink.faults c.args.out.now } in
    let heard : Since = record { bytes = g.E.Sink.received c.args.err.now; faults = g.E.Sink.faults c.args.err.now } in
    c.draw_all.ensures since wrote heard
    (c.in-Ok-begin.ensures (record { before = since.bytes; now = g.I.Source.left c.args.input.now; faults_before = since.faults; faults_now = g.I.Source.faults c.args.input.now }) taken)
    later
