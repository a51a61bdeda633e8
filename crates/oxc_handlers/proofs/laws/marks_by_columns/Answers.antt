use Rattle.oxc_plan.specs.Plan.{in_order}
use Rattle.oxc_handlers.specs.Places.{drawn_by_theme}
use Rattle.oxc_handlers.proofs.PlainLemmas.{line_columns}
use Rattle.oxc_handlers.proofs.laws.marks_by_columns.Goals as goal

pub returns : goal.returns
returns c = line_columns (drawn_by_theme c.args._theme.now (in_order c.args._labels.now) 0) c.args._marks.now
