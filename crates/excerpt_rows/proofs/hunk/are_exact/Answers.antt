-- All rows are looked at.
use Rattle.std.proofs.Common.{arith}
use Rattle.std.proofs.lemmas.Option.{slice_get_within}
use Rattle.excerpt_rows.proofs.hunk.are_exact.Goals as goal

pub returns : goal.returns
returns c = λ k row there. c.loop-row.invariant k row (omega (arith, slice_get_within c.args.rows.now k row there)) there
