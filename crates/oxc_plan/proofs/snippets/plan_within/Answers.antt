use Rattle.std.proofs.Common.{◌<◌, ◌≤◌, All, length, map, subst}
use Rattle.oxc_plan.specs.Groups.{span_at}
use Rattle.oxc_plan.specs.Plan.{ordered_view}
use Rattle.oxc_plan.specs.Rows.{row_view}
use Rattle.oxc_plan.proofs.AloneLemmas.{within_made}
use Rattle.oxc_plan.proofs.PlanLemmas.{one_rows_start, one_rows_within}
use Rattle.oxc_plan.proofs.snippets.plan_within.Goals as goal

pub placed-requires-clause-starts : goal.placed-requires-clause-starts
placed-requires-clause-starts c =
    subst (All (λ at. c.args.row.now.offset ≤ (span_at c.args.spans.now at).start)) c.requires.within (one_rows_start c.args.row.now.offset c.args.row.now.length c.args.spans.now)

pub placed-requires-clause-within : goal.placed-requires-clause-within
placed-requires-clause-within c =
    subst (All (λ at. at < length c.args.spans.now)) c.requires.within (one_rows_within c.args.row.now.offset c.args.row.now.length c.args.spans.now)

pub returns : goal.returns
returns c =
    within_made c.args.tabs (map ordered_view c.args.labels.now) (row_view c.args.row.now) c.args.spans.now c.args.at _ _ _ _
    c.requires.spans c.requires.within c.requires.across c.new.ensures.items c.in_ok-placed.ensures.exact c.in_ok-hang_alone.ensures c.new-2.ensures.items
