use Rattle.std.proofs.Common.{◌≡◌, ◌∙◌, sym, arith, false}
use Rattle.std.proofs.lemmas.Bool.Decides.{nat_tests}
use Rattle.oxc_plan.proofs.AsciiLemmas.{pen_more, pen_done, pen_jump}
use Rattle.oxc_plan.proofs.columns.pen_over.Goals as goal

pub loop-byte-preserved : goal.loop-byte-preserved
loop-byte-preserved c =
    let kept = c.loop-byte.invariant in
    record {
      ahead = rw (c.moved_over-pen.ensures.exact, c.from.ensures) (pen_more c.args.tabs c.loop-byte.pen c.args.bytes.now c.loop-byte.byte-index _ c.loop-byte-test.true ∙ kept.ahead);
      room = omega (arith, kept.room, c.moved_over-pen.ensures.bound);
    }

pub returns-clause-exact : goal.returns-clause-exact
returns-clause-exact c =
    sym (pen_done c.args.tabs c.loop-byte.pen c.args.bytes.now c.loop-byte.byte-index c.loop-byte-test.false) ∙ c.loop-byte.invariant.ahead

pub returns-then-is_plain-clause-exact : goal.returns-then-is_plain-clause-exact
returns-then-is_plain-clause-exact c =
    let out : c.args.pen.in_escape ≡ false = grind (arith, nat_tests, c.if-not-pen.true) in
    pen_jump c.args.tabs c.args.pen c.args.bytes.now out (c.is_plain.ensures c.if-is_plain.true)
