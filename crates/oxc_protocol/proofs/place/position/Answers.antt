use Rattle.std.proofs.Common.{arith}
use Rattle.oxc_protocol.proofs.PlaceLemmas.{row_small}
use Rattle.oxc_protocol.proofs.place.position.Goals as goal

pub overflow_add-result : goal.overflow_add-result
overflow_add-result c = omega (arith, c.requires.at, row_small c.args.bytes.now c.args.offset, c.requires.short)

pub overflow_add-result-2 : goal.overflow_add-result-2
overflow_add-result-2 c = omega (arith, c.column_of.ensures.bound, c.requires.within, c.requires.short)
