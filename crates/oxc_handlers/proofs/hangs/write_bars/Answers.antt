use Rattle.std.proofs.Common.{◌≡◌, ◌∙◌, get_or, string_bytes, arith, eqb, false}
use Rattle.std.proofs.lemmas.Bool.Decides.{nat_tests}
use Rattle.oxc_plan.specs.declared.marks.MarkCells.{MarkCells}
use Rattle.oxc_handlers.proofs.MarksLemmas.{ordered_more}
use Rattle.oxc_handlers.proofs.HangsLemmas.{bars_more, ordered_from}
use Rattle.oxc_handlers.proofs.hangs.write_bars.Goals as goal

pub overflow_add-from : goal.overflow_add-from
overflow_add-from c =
    let none : MarkCells = record { label = 0; start = 0; end = 0; bar = 0 } in
    let next = ordered_more c.loop-mark.from c.args.marks.now c.loop-mark.mark-index none c.loop-mark-test.true c.loop-mark.invariant.ordered in
    omega (arith, next.0.end)

pub loop-mark-preserved : goal.loop-mark-preserved
loop-mark-preserved c =
    let none : MarkCells = record { label = 0; start = 0; end = 0; bar = 0 } in
    let next = ordered_more c.loop-mark.from c.args.marks.now c.loop-mark.mark-index none c.loop-mark-test.true c.loop-mark.invariant.ordered in
    let other : eqb (get_or c.args.marks.now c.loop-mark.mark-index none).label c.args.at ≡ false = grind (arith, nat_tests) in
    record {
      ordered = ordered_from _ _ _ (omega (arith, next.0.end)) next.1;
      ahead = rw c.in_ok-write_hung_bar.ensures (bars_more c.args.setting.now c.args.at c.loop-mark.from c.args.marks.now c.loop-mark.mark-index none (string_bytes c.loop-mark.out) c.loop-mark-test.true other ∙ c.loop-mark.invariant.ahead);
    }
