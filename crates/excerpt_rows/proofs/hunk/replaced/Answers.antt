-- One row after another.
use Rattle.std.proofs.Common.{◌+◌, ◌∙◌, ap, length, option_to_list, arith}
use Rattle.excerpt_rows.proofs.HunkLemmas.{count_more, rows_len, rows_more, steps_end, steps_more, steps_stop, sum_end}
use Rattle.excerpt_rows.proofs.hunk.replaced.Goals as goal

pub returns-then-not-branch : goal.returns-then-not-branch
returns-then-not-branch c =
    steps_stop c.args.rows.now c.args.first c.loop-row.row-index c.loop-row.edit.count _ c.len.result _ (omega arith) (c.len.ensures ∙ c.loop-row.edit.rows.ok.0)
    (rw c.if-not-branch.true at c.in_ok-goes_on.ensures) c.loop-row.invariant.steps

pub loop-row-preserved : goal.loop-row-preserved
loop-row-preserved c =
    let kept = c.loop-row.invariant in
    let rows = c.args.rows.now in
    let k = c.loop-row.row-index in
    record {
      steps = steps_more rows c.args.first k c.loop-row.edit.count (length c.loop-row.edit.rows.items) _ (length c.push_row.new.rows.items) c.len.result _ (omega arith) (c.len.ensures ∙ c.loop-row.edit.rows.ok.0)
          (rw c.if-not-branch.false at c.in_ok-goes_on.ensures) (ap (λ n. c.loop-row.edit.count + n) c.taken.ensures.value)
          (rows_len c.loop-row.edit.rows.items c.push_row.new.rows.items _ c.in_ok-push_row.ensures ∙ ap (λ n. length c.loop-row.edit.rows.items + length (option_to_list n)) c.given.ensures) kept.steps;
      at = kept.at;
      count = count_more rows k _ c.loop-row.edit.count c.taken.result (omega arith) c.taken.ensures.value kept.count;
      rows_are = rows_more rows k _ _ _ _ (omega arith) c.in_ok-push_row.ensures (ap option_to_list c.given.ensures) kept.rows_are;
      few = omega (arith, kept.few, c.taken.ensures.few);
    }

pub returns : goal.returns
returns c = (
  steps_end c.args.rows.now c.args.first c.loop-row.row-index c.loop-row.edit.count _ c.loop-row-test.false c.loop-row.invariant.steps,
  sum_end c.args.rows.now c.loop-row.row-index c.args.first c.loop-row.edit c.loop-row-test.false c.loop-row.invariant.at c.loop-row.invariant.count c.loop-row.invariant.rows_are,
)
