use Rattle.std.proofs.Common.{arith}
use Rattle.oxc_windows.proofs.ByteRowsLemmas.{rows_begin}
use Rattle.oxc_protocol.proofs.PlaceLemmas.{row_small}
use Rattle.oxc_protocol.proofs.place.positions.Goals as goal

pub overflow_add-last : goal.overflow_add-last
overflow_add-last c =
    omega (arith, c.breaks_ending-first.ensures, c.breaks_ending.ensures, rows_begin c.bytes-bytes.result.now, row_small c.bytes-bytes.result.now c.span-span.result.end, c.bytes-bytes.ensures.fits)

pub position-requires-clause-at : goal.position-requires-clause-at
position-requires-clause-at c = omega (arith, c.breaks_ending-first.ensures, rows_begin c.bytes-bytes.result.now)

pub position-requires-2-clause-at : goal.position-requires-2-clause-at
position-requires-2-clause-at c = omega (arith, c.breaks_ending-first.ensures, c.breaks_ending.ensures, rows_begin c.bytes-bytes.result.now)
