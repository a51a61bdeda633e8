use Rattle.std.proofs.Common.{◌∙◌}
use Rattle.oxc_plan.specs.Rows.{row_view}
use Rattle.oxc_plan.proofs.SweepLemmas.{multi_row_from, one_row_from}
use Rattle.oxc_plan.proofs.snippets.plan_active.Goals as goal

pub plan_at-requires-clause-within : goal.plan_at-requires-clause-within
plan_at-requires-clause-within c =
    c.deref.ensures.value ∙ c.in_ok-within.ensures ∙ one_row_from (row_view c.args.row.now) c.args.spans.now c.args.active.now c.requires.among

pub plan_at-requires-clause-across : goal.plan_at-requires-clause-across
plan_at-requires-clause-across c =
    c.deref-2.ensures.value ∙ c.in_ok-across.ensures ∙ multi_row_from (row_view c.args.row.now) c.args.spans.now c.args.active.now c.requires.among
