-- The law itself.
use Rattle.excerpt_rows.proofs.AlignmentLemmas.{columns_are_right}
use Rattle.excerpt_rows.proofs.alignment.columns_are_right.Goals as goal

pub returns : goal.returns
returns c = columns_are_right
