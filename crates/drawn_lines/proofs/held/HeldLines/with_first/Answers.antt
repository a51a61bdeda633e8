-- Enough came to tell whether a byte order mark stands first.
use Rattle.std.proofs.Common.{arith}
use Rattle.drawn_lines.proofs.HeldLemmas.{first_of}
use Rattle.drawn_lines.proofs.held.HeldLines.with_first.Goals as goal

pub returns-clause-came : goal.returns-clause-came
returns-clause-came c =
    first_of c.cut_first.result c.args.self c.extend_from_slice.new.self.items c.args.bytes.now c.requires c.in_ok-extend_from_slice.ensures.items
    (omega (arith, c.if-len-lt3.false, c.len.ensures, c.extend_from_slice.new.self.ok)) c.cut_first.ensures.came c.cut_first.ensures.begun
