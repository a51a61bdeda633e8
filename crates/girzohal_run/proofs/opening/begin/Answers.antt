-- The last piece goes past the limit.
use Rattle.std.proofs.Common.{◌+◌, ◌++◌, take, arith}
use Rattle.std.proofs.lemmas.List.{length-take}
use Rattle.documents.proofs.Consuming.{Consumes-trans, goes_past}
use Rattle.girzohal_run.specs.Run.{limit}
use Rattle.girzohal_run.proofs.opening.begin.Goals as goal

pub returns-then-count-len-clause-opens : goal.returns-then-count-len-clause-opens
returns-then-count-len-clause-opens g c =
    let bytes = c.loop-bytes.bytes.items in
    let piece = take c.in-Ok.count c.read.new.buf in
    let most = c.in-Ok.ensures.bound.0 in
    let past = goes_past bytes c.read.new.buf c.in-Ok.count limit c.loop-bytes.invariant.within (omega arith)
    (omega (arith, most, c.read.auto.buf, length-take (c.min-room.result + 1) c.loop-bytes.chunk, c.min-room.ensures, c.len.ensures)) most in
    (bytes ++ piece, omega (arith, past), Consumes-trans _ _ _ bytes piece c.loop-bytes.invariant.taken c.in-Ok.ensures.bytes.0)
