use Rattle.std.proofs.Common.{arith}
use Rattle.std.proofs.lemmas.List.{take_rest}
use Rattle.report_arrays.proofs.Ascii.{more_halves}
use Rattle.report_arrays.proofs.bytes.ascii_blocks.Goals as goal

pub loop-at-preserved : goal.loop-at-preserved
loop-at-preserved c =
    let halves = c.either.ensures (c.is_ascii.ensures c.if-not-is_ascii.false) in
    let first = rw take_rest at (c.bits_of.ensures halves.0) in
    let second = rw take_rest at (c.bits_of-in-loop-at.ensures halves.1) in
    (omega arith, more_halves c.loop-at.at c.args.bytes.now c.loop-at.invariant.1 first second)
