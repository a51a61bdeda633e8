use Rattle.oxc_plan.specs.Rows.{row_view}
use Rattle.oxc_plan.proofs.MarksLemmas.{ends_by_columns, marks_are_exact}
use Rattle.oxc_plan.proofs.marks.exact_marks.Goals as goal

pub returns-clause-exact : goal.returns-clause-exact
returns-clause-exact c = marks_are_exact c.args._tab (row_view c.args._row.now) c.args._spans.now

pub returns-clause-ends : goal.returns-clause-ends
returns-clause-ends c = ends_by_columns c.args._tab (row_view c.args._row.now)
