-- The rows are kept in order.
use Rattle.std.proofs.Common.{List, subst, sym}
use Rattle.changed_rows.specs.Changes.{IsOrdered}
use Rattle.changed_rows.specs.declared.reader.FileRow.{FileRow}
use Rattle.changed_rows.proofs.diff.Diff.rows.Goals as goal

abbrev Ordered : List FileRow → Type 0
Ordered rows = IsOrdered rows

pub returns-in-Added-clause-ordered : goal.returns-in-Added-clause-ordered
returns-in-Added-clause-ordered c = subst Ordered (sym c.deref.ensures.value) c.self.invariant.0

pub returns-in-Shown-clause-ordered : goal.returns-in-Shown-clause-ordered
returns-in-Shown-clause-ordered c = subst Ordered (sym c.deref-in-Shown.ensures.value) c.self.invariant.1
