use Rattle.std.proofs.Common.{◌∙◌, ap, map, sym}
use Rattle.oxc_plan.specs.Meets.{multi_row_labels, one_row_labels}
use Rattle.oxc_plan.specs.Plan.{ordered_view}
use Rattle.oxc_plan.specs.Rows.{row_view}
use Rattle.oxc_plan.proofs.AloneLemmas.{bare_made, one_across, one_apart, one_within}
use Rattle.oxc_plan.proofs.snippets.plan_alone.Goals as goal

pub plan_within-requires-clause-within : goal.plan_within-requires-clause-within
plan_within-requires-clause-within c =
    (one_within (row_view c.args.row.now) c.args.spans.now c.args.at c.span_at-span.result c.requires.among c.span_at-span.ensures.value (sym c.is_one_row.ensures.value ∙ c.if-is_one_row.true)).0

pub plan_within-requires-clause-across : goal.plan_within-requires-clause-across
plan_within-requires-clause-across c =
    (one_within (row_view c.args.row.now) c.args.spans.now c.args.at c.span_at-span.result c.requires.among c.span_at-span.ensures.value (sym c.is_one_row.ensures.value ∙ c.if-is_one_row.true)).1

pub plan_across-requires-clause-within : goal.plan_across-requires-clause-within
plan_across-requires-clause-within c =
    ap (one_row_labels c.args.row.now.offset c.args.row.now.length) (sym c.requires.spans)
    ∙ (one_across (row_view c.args.row.now) c.args.spans.now c.args.at c.span_at-span.result c.requires.among c.span_at-span.ensures.value
    (sym c.is_one_row.ensures.value ∙ c.if-is_one_row.false) (sym c.is_multi_row.ensures.value ∙ c.if-is_multi_row.true)).0

pub plan_across-requires-clause-across : goal.plan_across-requires-clause-across
plan_across-requires-clause-across c =
    ap (multi_row_labels c.args.row.now.offset c.args.row.now.length) (sym c.requires.spans)
    ∙ (one_across (row_view c.args.row.now) c.args.spans.now c.args.at c.span_at-span.result c.requires.among c.span_at-span.ensures.value
    (sym c.is_one_row.ensures.value ∙ c.if-is_one_row.false) (sym c.is_multi_row.ensures.value ∙ c.if-is_multi_row.true)).1

pub returns-else-is_multi_row : goal.returns-else-is_multi_row
returns-else-is_multi_row c =
    let none = one_apart (row_view c.args.row.now) c.args.spans.now c.args.at c.span_at-span.result c.requires.among c.span_at-span.ensures.value
    (sym c.is_one_row.ensures.value ∙ c.if-is_one_row.false) (sym c.is_multi_row.ensures.value ∙ c.if-is_multi_row.false) in
    c.bare_row.ensures ∙ bare_made c.args.tabs (map ordered_view c.args.labels.now) (row_view c.args.row.now) c.args.spans.now c.requires.spans none.0 none.1
