use Rattle.std.proofs.Common.{◌++◌, ◌∙◌, ap, length, map, sym, refl, append-nil}
use Rattle.std.proofs.lemmas.List.{map_push}
use Rattle.oxc_windows.proofs.TotalLemmas.{map_step}
use Rattle.oxc_plan.specs.Plan.{ordered_view, row_plan_of, row_plan_view}
use Rattle.oxc_plan.specs.Rows.{row_view, rows_from}
use Rattle.oxc_plan.proofs.AloneLemmas.{group_of_one}
use Rattle.oxc_plan.proofs.RowsLemmas.{rows_none}
use Rattle.oxc_plan.proofs.SweepLemmas.{alone_head, alone_tail}
use Rattle.oxc_plan.proofs.snippets.plan_rows_of_one.Goals as goal

pub loop-row-init : goal.loop-row-init
loop-row-init c = record {
  plans = rw (c.in_ok-plans.ensures.items, c.rows_ahead-ahead.ensures.text, c.rows_ahead-ahead.ensures.offset, c.rows_ahead-ahead.ensures.above) refl;
  alone = rw (c.rows_ahead-ahead.ensures.text, c.rows_ahead-ahead.ensures.offset, c.rows_ahead-ahead.ensures.above) c.requires.sweep.alone;
}

pub plan_alone-requires-clause-among : goal.plan_alone-requires-clause-among
plan_alone-requires-clause-among c =
    let sweep = c.requires.sweep in
    group_of_one c.args.spans.now c.args.group.now (row_view c.in-Some.row) sweep.rising c.requires.one sweep.within
    (alone_head c.args.spans.now c.args.group.now _ _ (row_view c.in-Some.row) c.loop-row.invariant.alone c.in-Some.ensures.next)

pub loop-row-smaller : goal.loop-row-smaller
loop-row-smaller c = c.in-Some.ensures.further

pub loop-row-preserved : goal.loop-row-preserved
loop-row-preserved c =
    let kept = c.loop-row.invariant in
    let row = row_view c.in-Some.row in
    let plans = c.loop-row.plans.items in
    let plan = c.in_ok-plan_alone.field-0 in
    let next = c.cut.new.self in
    let f = row_plan_of c.args.tabs (map ordered_view c.args.labels.now) in
    let rest = rows_from next.above next.offset next.text.now in
    record {
      plans = map_step f (map row_plan_view plans) (map row_plan_view c.push.new.self.items) _ (row_plan_view plan) row _ rest
          (ap (map row_plan_view) c.in_ok-push.ensures.items ∙ map_push row_plan_view plans plan) c.in_ok-plan_alone.ensures c.in-Some.ensures.next kept.plans;
      alone = alone_tail c.args.spans.now c.args.group.now _ rest row kept.alone c.in-Some.ensures.next;
    }

pub returns : goal.returns
returns c =
    let ended = rw c.in_default.is at c.cut.ensures.next in
    let plans = map row_plan_view c.loop-row.plans.items in
    let f = row_plan_of c.args.tabs (map ordered_view c.args.labels.now) in
    sym (append-nil plans)
    ∙ ap (λ l. plans ++ map f l) (sym (rows_none c.loop-row.ahead.above c.loop-row.ahead.offset c.loop-row.ahead.text.now (ap length ended)))
    ∙ c.loop-row.invariant.plans
