use Rattle.std.proofs.Common.{arith}
use Rattle.source_location.proofs.BreaksLemmas.{breaks_valid}
use Rattle.source_location.proofs.RowsLemmas.{row_start-le}
use Rattle.source_location.proofs.line_index.LineIndex.line_end.Goals as goal

pub overflow_cast-start_of : goal.overflow_cast-start_of
overflow_cast-start_of c = omega (arith, c.start_of.ensures.start, c.start_of.ensures.fits, row_start-le _ _ c.to_usize.result (breaks_valid c.args.contents.now))
