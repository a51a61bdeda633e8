-- There is an alignment, or there is none.
use Rattle.excerpt_rows.proofs.HunkLemmas.{aligned_if}
use Rattle.excerpt_rows.proofs.hunk.is_aligned.Goals as goal

pub returns : goal.returns
returns c = aligned_if c.in_ok-found.found c.is_some.result c.args.printed.now c.args.source.now c.in_ok-found.ensures.found c.is_some.ensures
