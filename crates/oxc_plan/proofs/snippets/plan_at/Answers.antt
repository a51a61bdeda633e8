use Rattle.std.proofs.Common.{◌∙◌, ap, sym, map, subst, All, ◌<◌, ◌≤◌, length}
use Rattle.std.specs.List.Sorted.{IsNonDecreasingBy}
use Rattle.oxc_span.specs.declared.span.Span.{Span}
use Rattle.oxc_plan.specs.Groups.{span_at}
use Rattle.oxc_plan.specs.Meets.{one_row_labels}
use Rattle.oxc_plan.specs.Plan.{ordered_view, start_in}
use Rattle.oxc_plan.proofs.HangsLemmas.{one_rows_ascend}
use Rattle.oxc_plan.specs.Rows.{row_view}
use Rattle.oxc_plan.proofs.PlanLemmas.{one_rows_start, one_rows_within, row_plan_made}
use Rattle.oxc_plan.proofs.snippets.plan_at.Goals as goal

pub placed-requires-clause-starts : goal.placed-requires-clause-starts
placed-requires-clause-starts c =
    subst (All (λ at. c.args.row.now.offset ≤ (span_at c.args.spans.now at).start)) (sym c.requires.within) (one_rows_start c.args.row.now.offset c.args.row.now.length c.args.spans.now)

pub placed-requires-clause-within : goal.placed-requires-clause-within
placed-requires-clause-within c =
    subst (All (λ at. at < length c.args.spans.now)) (sym c.requires.within) (one_rows_within c.args.row.now.offset c.args.row.now.length c.args.spans.now)

pub returns : goal.returns
returns c =
    row_plan_made c.args.tabs (map ordered_view c.args.labels.now) (row_view c.args.row.now) c.args.spans.now c.args.within.now c.args.across.now _ _ _ _
    c.requires.spans c.requires.within c.requires.across c.in_ok-bars.ensures c.in_ok-marks.ensures.exact c.in_ok-hangs.ensures c.in_ok-ends.ensures

pub hangs_at-requires : goal.hangs_at-requires
hangs_at-requires c =
    let labels = map ordered_view c.args.labels.now in
    let row = c.args.row.now in
    subst (IsNonDecreasingBy (start_in labels)) (sym (c.requires.within ∙ ap (one_row_labels row.offset row.length) c.requires.spans))
    (one_rows_ascend row.offset row.length labels (subst (IsNonDecreasingBy (λ (s : Span). s.start)) c.requires.spans c.requires.rising))
