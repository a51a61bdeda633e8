use Rattle.std.proofs.Common.{map}
use Rattle.oxc_plan.specs.Plan.{ordered_view}
use Rattle.oxc_plan.specs.Rows.{row_view}
use Rattle.oxc_plan.proofs.AloneLemmas.{across_made}
use Rattle.oxc_plan.proofs.snippets.plan_across.Goals as goal

pub returns : goal.returns
returns c tab =
    across_made tab (map ordered_view c.args.labels.now) (row_view c.args.row.now) c.args.at _ _ _ _
    c.requires.within c.requires.across c.in_ok-bars_at.ensures c.new.ensures.items c.new-2.ensures.items c.in_ok-ends_at.ensures
