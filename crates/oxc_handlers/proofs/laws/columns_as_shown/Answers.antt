use Rattle.oxc_plan.specs.Rows.{row_view}
use Rattle.oxc_handlers.proofs.ShownColumns.{columns_are_shown}
use Rattle.oxc_handlers.proofs.laws.columns_as_shown.Goals as goal

pub returns : goal.returns
returns c = columns_are_shown c.args._tab (row_view c.args._row.now)
