use Rattle.oxc_plan.specs.Marks.{row_cells}
use Rattle.oxc_plan.specs.Rows.{row_view}
use Rattle.oxc_plan.proofs.PlacedLemmas.{placed_are, placed_only}
use Rattle.oxc_plan.proofs.laws.one_placed_list.Goals as goal

pub returns : goal.returns
returns c =
    let cells = row_cells c.args._tab (row_view c.args._row.now) c.args._spans.now in
    record { placed = placed_are 0 cells; one = placed_only 0 cells }
