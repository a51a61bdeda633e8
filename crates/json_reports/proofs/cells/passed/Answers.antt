-- Each character before the cell is counted.
use Rattle.std.proofs.Common.{arith}
use Rattle.std.specs.Str.Iter.{chars_rest}
use Rattle.std.proofs.lemmas.Str.{IsUtf8-past_char}
use Rattle.json_reports.proofs.CellLemmas.{passed_end, passed_go, passed_stop}
use Rattle.json_reports.proofs.cells.passed.Goals as goal

pub loop-c-preserved : goal.loop-c-preserved
loop-c-preserved c =
    let kept = c.loop-c.invariant in
    let step = c.in-Some.ensures.steps.0 in
    record {
      can_next = tt;
      is_finite = tt;
      utf8 = IsUtf8-past_char _ _ _ kept.utf8 step;
      fewer = omega (arith, kept.fewer, c.width-width.ensures.low);
      low = omega arith;
      value =
          (let go = passed_go c.args.cells c.args.count c.loop-c.at c.in-Some.c c.width-width.result _ _ kept.utf8 step c.width-width.ensures.value (omega arith) in
          omega (arith, kept.value, go));
    }

pub returns-then-count-at-clause-value : goal.returns-then-count-at-clause-value
returns-then-count-at-clause-value c =
    let kept = c.loop-c.invariant in
    let stop = passed_stop c.args.cells c.args.count c.loop-c.at c.in-Some.c c.width-width.result _ _ kept.utf8 c.in-Some.ensures.steps.0 c.width-width.ensures.value (omega arith) in
    omega (arith, kept.value, stop)

pub returns-clause-value : goal.returns-clause-value
returns-clause-value c =
    let kept = c.loop-c.invariant in
    let none = passed_end c.args.cells c.args.count c.loop-c.at (chars_rest c.loop-c.c-iterator) c.in-None.ensures.steps.0.0 in
    omega (arith, kept.value, none)
