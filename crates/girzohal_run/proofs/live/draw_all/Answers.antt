-- A piece came, or the end, or the input failed.
use Rattle.std.proofs.Common.{◌≡◌, [], inr, subst, sym, take, arith, codes}
use Rattle.std.specs.Io.KnownBytes.{Consumes}
use Rattle.girzohal_run.proofs.LiveLemmas.{goes_drew, goes_still, keeps_takes, rose_since, stays_stopped, went_drew}
use Rattle.girzohal_run.specs.Live.{Hears}
use Rattle.girzohal_run.specs.Run.{Means, device_since}
use Rattle.girzohal_run.proofs.live.draw_all.Goals as goal

pub returns-in-Err : goal.returns-in-Err
returns-in-Err g c = λ since wrote heard goes later.
    let told = g.S.Store.told c.args.store.now in
    let asked = c.args.asked.now in
    let input = device_since g.I.Source.left g.I.Source.faults since c.loop.input in
    let next = c.read.new.self in
    let read = device_since g.I.Source.left g.I.Source.faults since next in
    let out = device_since g.O.Sink.received g.O.Sink.faults wrote c.loop.out in
    let err = device_since g.E.Sink.received g.E.Sink.faults heard c.loop.err in
    let said = device_since g.E.Sink.received g.E.Sink.faults heard c.say.new.err in
    let now = c.loop.invariant since wrote heard goes later in
    let taken = keeps_takes (g.I.Source.left c.loop.input) (g.I.Source.left next) c.in-Err.ensures.bytes in
    subst (λ status. Means status asked read told out said) (sym c.say.ensures.status) (
      rose_since since.faults (g.I.Source.faults c.loop.input) (g.I.Source.faults next) now.1 c.in-Err.ensures.cause.failed,
      stays_stopped told asked read out said (Hears c.loop.live.deaf err) (codes "girzohal: input failed\n") (c.say.ensures.told heard)
          (inr (went_drew told asked input out err (g.I.Source.left next) (g.I.Source.faults next) [] c.loop.live now.0 taken)),
    )

pub returns-in-Ok-eq0 : goal.returns-in-Ok-eq0
returns-in-Ok-eq0 g c = λ since wrote heard goes later.
    let told = g.S.Store.told c.args.store.now in
    let asked = c.args.asked.now in
    let input = device_since g.I.Source.left g.I.Source.faults since c.loop.input in
    let out = device_since g.O.Sink.received g.O.Sink.faults wrote c.loop.out in
    let err = device_since g.E.Sink.received g.E.Sink.faults heard c.loop.err in
    let next = c.read.new.self in
    let read = device_since g.I.Source.left g.I.Source.faults since next in
    let now = c.loop.invariant since wrote heard goes later in
    let none : c.in-Ok-eq0.field-0 ≡ 0 = omega arith in
    let taken = subst (λ n. Consumes (g.I.Source.left c.loop.input) (g.I.Source.left next) (take n c.read.new.buf)) none c.in-Ok-eq0.ensures.bytes.0 in
    c.end.ensures read wrote heard (goes_still told asked input out err (g.I.Source.left next) (g.I.Source.faults next) c.loop.live now.0 taken)
    (c.in-Ok-eq0.ensures.bytes.1 none (omega (arith, c.read.auto.buf)))

pub returns-in-Err-go_on : goal.returns-in-Err-go_on
returns-in-Err-go_on g c = λ since wrote heard goes later.
    let input = device_since g.I.Source.left g.I.Source.faults since c.loop.input in
    let next = c.read.new.self in
    c.in-Err-go_on.ensures input (g.I.Source.left next) (g.I.Source.faults next) wrote heard (c.loop.invariant since wrote heard goes later).0 c.in-Ok.ensures.bytes.0

pub loop-preserved : goal.loop-preserved
loop-preserved g c = λ since wrote heard goes later.
    let input = device_since g.I.Source.left g.I.Source.faults since c.loop.input in
    let next = c.read.new.self in
    let now = c.loop.invariant since wrote heard goes later in (
      c.in-Ok-go_on.ensures input (g.I.Source.left next) (g.I.Source.faults next) wrote heard now.0 c.in-Ok.ensures.bytes.0,
      omega (arith, now.1, c.read.ensures.cause.later),
    )

pub returns : goal.returns
returns g c = λ since wrote heard goes later.
    let told = g.S.Store.told c.args.store.now in
    let asked = c.args.asked.now in
    let input = device_since g.I.Source.left g.I.Source.faults since c.loop.input in
    let out = device_since g.O.Sink.received g.O.Sink.faults wrote c.loop.out in
    let err = device_since g.E.Sink.received g.E.Sink.faults heard c.loop.err in
    c.out_of_memory.ensures told asked input out heard (inr (goes_drew told asked input out err c.loop.live (c.loop.invariant since wrote heard goes later).0))
