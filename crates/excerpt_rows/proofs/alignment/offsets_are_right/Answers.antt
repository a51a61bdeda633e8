-- The laws themselves.
use Rattle.excerpt_rows.proofs.AlignedLemmas.{ascend, boundaries, within}
use Rattle.excerpt_rows.proofs.alignment.offsets_are_right.Goals as goal

pub returns-clause-boundaries : goal.returns-clause-boundaries
returns-clause-boundaries c = boundaries

pub returns-clause-within : goal.returns-clause-within
returns-clause-within c = within

pub returns-clause-ascend : goal.returns-clause-ascend
returns-clause-ascend c = ascend
