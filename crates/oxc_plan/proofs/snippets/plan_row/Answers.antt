use Rattle.std.proofs.Common.{◌∙◌, arith, map}
use Rattle.std.proofs.lemmas.List.{nil_from_length}
use Rattle.oxc_plan.specs.Plan.{ordered_view}
use Rattle.oxc_plan.specs.Rows.{row_view}
use Rattle.oxc_plan.proofs.AloneLemmas.{bare_made, none_met}
use Rattle.oxc_plan.proofs.snippets.plan_row.Goals as goal

pub returns-in-empty : goal.returns-in-empty
returns-in-empty c =
    let row = row_view c.args.row.now in
    let none = none_met row c.args.spans.now c.args.active.now c.requires.among (nil_from_length c.args.active.now (omega (arith, c.in-empty.len_below))) in
    c.bare_row.ensures ∙ bare_made c.args.tabs (map ordered_view c.args.labels.now) row c.args.spans.now c.requires.spans none.0 none.1
