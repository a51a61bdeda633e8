-- What was shown is what the whole input is, or it goes on past the limit.
use Rattle.std.proofs.Common.{◌++◌, ◌≤◌, inl, length, length-append, arith, subst, sym}
use Rattle.std.specs.Io.KnownBytes.{Consumes}
use Rattle.documents.proofs.Consuming.{Consumes-trans}
use Rattle.girzohal_run.proofs.LiveLemmas.{nothing_kept}
use Rattle.girzohal_run.proofs.RunLemmas.{shown_means}
use Rattle.girzohal_run.specs.Run.{Means, device, device_since, limit}
use Rattle.girzohal_run.proofs.program.run_whole.Goals as goal

pub returns-in-Ok-clause-means : goal.returns-in-Ok-clause-means
returns-in-Ok-clause-means g c = λ since taken later.
    let first = c.args.bytes.items in
    let rest = c.in-Whole.rest.items in
    let left = g.I.Source.left c.read_all.new.input in
    let shows = rw c.deref.ensures.value at c.show.ensures.shows in
    let all = Consumes-trans since.bytes (g.I.Source.left c.args.input.now) left first rest taken c.in-Whole.ensures.says.1 in
    shown_means c.show.result c.args.asked.now (g.S.Store.told c.args.store.now) (device_since g.I.Source.left g.I.Source.faults since c.read_all.new.input)
    (device g.O.Sink.received g.O.Sink.faults c.args.out.now c.show.new.out) (device g.E.Sink.received g.E.Sink.faults c.args.err.now c.show.new.err)
    c.in-Ok.bytes.items (subst (Consumes since.bytes left) (sym c.in-Ok.ensures) all) c.in-Whole.ensures.says.2
    (subst (λ bytes. length bytes ≤ limit) (sym c.in-Ok.ensures) (omega (arith, c.in-Whole.ensures.says.0, length-append first rest, c.requires, c.len.ensures))) shows

pub returns-in-TooLong-clause-means : goal.returns-in-TooLong-clause-means
returns-in-TooLong-clause-means g c = λ since taken later.
    let first = c.args.bytes.items in
    let more = c.in-TooLong.ensures.says in
    let input = device_since g.I.Source.left g.I.Source.faults since c.read_all.new.input in
    let out = device g.O.Sink.received g.O.Sink.faults c.args.out.now c.args.out.now in
    subst (λ status. Means status c.args.asked.now input (g.S.Store.told c.args.store.now) out
    (device g.E.Sink.received g.E.Sink.faults c.args.err.now c.fail-in-TooLong.new.err)) (sym c.fail-in-TooLong.ensures.status) (inl (
      record {
        bytes = first ++ more.0;
        taken = Consumes-trans since.bytes (g.I.Source.left c.args.input.now) (g.I.Source.left c.read_all.new.input) first more.0 taken more.2;
        past = omega (arith, more.1, length-append first more.0, c.requires, c.len.ensures);
      },
      nothing_kept (g.O.Sink.received c.args.out.now),
      c.fail-in-TooLong.ensures.told,
    ))
