use Rattle.oxc_plan.specs.Rows.{row_view}
use Rattle.oxc_plan.proofs.AsciiLemmas.{columns_are_drawn}
use Rattle.oxc_plan.proofs.columns.columns_as_drawn.Goals as goal

pub returns : goal.returns
returns c = columns_are_drawn c.args._tab (row_view c.args._row.now)
