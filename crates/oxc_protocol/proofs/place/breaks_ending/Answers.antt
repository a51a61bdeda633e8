use Rattle.std.proofs.Common.{arith}
use Rattle.oxc_protocol.proofs.PlaceLemmas.{ended_in, row_small}
use Rattle.oxc_protocol.proofs.place.breaks_ending.Goals as goal

pub overflow_add-result : goal.overflow_add-result
overflow_add-result c =
    omega (arith, ended_in c.args.bytes.now c.args.from c.args.to c.requires.ordered c.requires.within, c.count.ensures, c.lone_returns.ensures, row_small c.args.bytes.now c.args.to, c.requires.within, c.ranges.to)

pub returns : goal.returns
returns c = rw (c.count.ensures, c.lone_returns.ensures) (ended_in c.args.bytes.now c.args.from c.args.to c.requires.ordered c.requires.within)
