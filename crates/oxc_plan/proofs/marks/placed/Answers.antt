use Rattle.std.proofs.Common.{◌≤◌, ◌∙◌, length, sym, arith}
use Rattle.oxc_plan.specs.Rows.{row_view}
use Rattle.oxc_plan.proofs.MarksLemmas.{placed_done}
use Rattle.oxc_plan.proofs.marks.placed.Goals as goal

pub returns-in-empty-clause-exact : goal.returns-in-empty-clause-exact
returns-in-empty-clause-exact c =
    let none : length c.args.places.now ≤ 0 = omega (arith, c.in-empty.len_below) in
    c.new.ensures.items ∙ sym (placed_done 0 c.args.tabs (row_view c.args.row.now) c.args.spans.now c.args.places.now 0 none)
