-- What was sent is what is made of the bytes.
use Rattle.girzohal_run.specs.Run.{device, texts_of}
use Rattle.girzohal_run.proofs.RunLemmas.{sent_shows, sent_touches}
use Rattle.girzohal_run.proofs.program.show.Goals as goal

pub returns-in-Ok-clause-shows : goal.returns-in-Ok-clause-shows
returns-in-Ok-clause-shows g c =
    sent_shows c.send.result c.args.asked.now (g.S.Store.told c.args.store.now)
    (texts_of c.in-Ok.made) (device g.O.Sink.received g.O.Sink.faults c.args.out.now c.send.new.out) (device g.E.Sink.received g.E.Sink.faults c.args.err.now c.send.new.err)
    c.args.bytes.now c.in-Ok.ensures.made c.send.ensures

pub returns-in-Ok-clause-untouched : goal.returns-in-Ok-clause-untouched
returns-in-Ok-clause-untouched g c =
    sent_touches c.send.result
    (texts_of c.in-Ok.made) (device g.O.Sink.received g.O.Sink.faults c.args.out.now c.send.new.out) (device g.E.Sink.received g.E.Sink.faults c.args.err.now c.send.new.err)
    c.args.out.now c.send.new.out c.send.ensures
