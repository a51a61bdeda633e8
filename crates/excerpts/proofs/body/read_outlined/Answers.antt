-- One part after another.
use Rattle.std.proofs.Common.{◌≡◌, ◌-◌, ap, arith, length, length-drop, length-take, sym, take, ◌∙◌}
use Rattle.excerpts.proofs.BodyLemmas.{none_there, nothing_left, part_goes_on, refused_there}
use Rattle.excerpts.proofs.body.read_outlined.Goals as goal

pub returns-in_default-clause-refused : goal.returns-in_default-clause-refused
returns-in_default-clause-refused c = λ not_memory.
    none_there _ _ _ _ _ _ _ _ c.loop-next.invariant.so_far c.loop-next-test.true c.tail-left.ensures (sym c.part_at.ensures.value ∙ c.in_default.is)

pub add-requires-clause-few : goal.add-requires-clause-few
add-requires-clause-few c =
    let mine = c.head-mine.ensures ∙ ap (take c.in-Some.part.lines) c.tail.ensures in
    let most = ap length mine ∙ length-take c.in-Some.part.lines _ in
    let rest = length-drop c.loop-next.next c.args.lines.now in
    omega (arith, c.in-Some.ensures.first)

pub returns-in-Err-clause-refused : goal.returns-in-Err-clause-refused
returns-in-Err-clause-refused c = λ not_memory.
    refused_there _ _ _ _ _ _ _ _ _ _ _ c.loop-next.invariant.so_far c.loop-next-test.true c.tail-left.ensures c.in-Some.ensures.value
    (c.head-mine.ensures ∙ ap (take c.in-Some.part.lines) c.tail.ensures) (c.head.ensures ∙ ap (take c.in-Some.part.lines) c.tail-left.ensures) (c.in-Err.ensures.refused not_memory)

pub loop-next-preserved : goal.loop-next-preserved
loop-next-preserved c =
    let left : length c.tail-left.result.now ≡ length c.args.outlines.now - c.loop-next.next = ap length c.tail-left.ensures ∙ length-drop c.loop-next.next c.args.outlines.now in record {
      within = omega (arith, c.in-Some.ensures.within);
      so_far = part_goes_on _ _ _ _ _ _ _ _ _ _ _ _ c.loop-next.invariant.so_far c.tail-left.ensures c.in-Some.ensures.value
          (c.head-mine.ensures ∙ ap (take c.in-Some.part.lines) c.tail.ensures) (c.head.ensures ∙ ap (take c.in-Some.part.lines) c.tail-left.ensures) c.in-Ok.ensures.added c.after-state.ensures;
    }

pub returns-clause-read : goal.returns-clause-read
returns-clause-read c = nothing_left _ _ _ _ _ _ _ c.loop-next.invariant.so_far c.loop-next-test.false
