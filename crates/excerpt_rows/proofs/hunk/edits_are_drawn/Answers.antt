-- The law itself.
use Rattle.excerpt_rows.proofs.HunkLemmas.{edits_are_drawn}
use Rattle.excerpt_rows.proofs.hunk.edits_are_drawn.Goals as goal

pub returns : goal.returns
returns c = edits_are_drawn
