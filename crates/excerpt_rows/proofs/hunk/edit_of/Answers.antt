-- The value that the relation determines.
use Rattle.excerpt_rows.proofs.EditLemmas.{edit_if}
use Rattle.excerpt_rows.proofs.hunk.edit_of.Goals as goal

pub returns-clause-value : goal.returns-clause-value
returns-clause-value c = edit_if c.args.rows.now c.edit_found.result c.edit_found.ensures
