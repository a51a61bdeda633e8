use Rattle.std.proofs.Common.{◌+◌, ◌^◌, ◌∙◌, refl, sym, subst, arith, append-nil}
use Rattle.oxc_plan.specs.Rows.{row_view}
use Rattle.oxc_plan.specs.Marks.{cells_at, AreInOrder}
use Rattle.oxc_plan.proofs.MarksLemmas.{placed_more, placed_done, placed_in_order, mark_end-le}
use Rattle.oxc_plan.proofs.marks.placed_in_turn.Goals as goal

pub loop-at-preserved : goal.loop-at-preserved
loop-at-preserved c =
    let kept = c.loop-at.invariant in
    record {
      ahead = rw (c.in_ok-push.ensures.items, c.mark_after-mark.ensures, c.cells_of.ensures.exact) (placed_more c.loop-at.marks.items c.loop-at.before c.args.tabs (row_view c.args.row.now) c.args.spans.now c.args.places.now c.loop-at.at-index _ c.loop-at-test.true ∙ kept.ahead);
      small = rw c.mark_after-mark.ensures (omega (arith, mark_end-le c.loop-at.before (2 ^ 38 + c.loop-at.at-index) c.cells_of.result kept.small (omega (arith, c.cells_of.ensures.first)) (omega (arith, c.cells_of.ensures.last))));
    }

pub returns-clause-exact : goal.returns-clause-exact
returns-clause-exact c =
    rw (placed_done c.loop-at.before c.args.tabs (row_view c.args.row.now) c.args.spans.now c.args.places.now c.loop-at.at-index c.loop-at-test.false, append-nil) at c.loop-at.invariant.ahead

pub returns-clause-order : goal.returns-clause-order
returns-clause-order c =
    let exact = returns-clause-exact c in
    subst (λ marks. AreInOrder 0 marks) (sym exact) (placed_in_order 0 (cells_at c.args.tabs (row_view c.args.row.now) c.args.spans.now c.args.places.now))

pub loop-at-init : goal.loop-at-init
loop-at-init c = record {
  ahead = rw c.new-marks.ensures.items refl;
  small = omega arith;
}
