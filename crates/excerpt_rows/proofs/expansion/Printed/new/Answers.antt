-- Nothing is printed yet.
use Rattle.std.proofs.Common.{sym, ap, ◌∙◌}
use Rattle.excerpt_rows.specs.Expansion.{bytes_of, cells_of}
use Rattle.excerpt_rows.proofs.ExpansionLemmas.{bytes_none, cells_none}
use Rattle.excerpt_rows.proofs.expansion.Printed.new.Goals as goal

pub returns-clause-measured : goal.returns-clause-measured
returns-clause-measured c = record {
  cells = sym (ap cells_of c.new.ensures.items ∙ cells_none);
  bytes = sym (ap bytes_of c.new.ensures.items ∙ bytes_none);
}
