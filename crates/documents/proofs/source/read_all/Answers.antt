-- The last piece goes one byte past the limit.
use Rattle.std.proofs.Common.{◌+◌, ◌++◌, take, arith}
use Rattle.std.proofs.lemmas.List.{length-take}
use Rattle.documents.proofs.Consuming.{Consumes-trans, goes_past}
use Rattle.documents.proofs.source.read_all.Goals as goal

pub returns-then-count-limit-clause-says : goal.returns-then-count-limit-clause-says
returns-then-count-limit-clause-says g c =
    let piece = take c.in-Ok.count c.read.new.buf in
    let most = c.in-Ok.ensures.bound.0 in (
      c.loop-bytes.bytes.items ++ piece,
      goes_past c.loop-bytes.bytes.items c.read.new.buf c.in-Ok.count c.args.limit c.loop-bytes.invariant.within (omega arith)
          (omega (arith, most, c.read.auto.buf, length-take (c.min-room.result + 1) c.loop-bytes.chunk, c.min-room.ensures, c.len.ensures)) most,
      Consumes-trans _ _ _ c.loop-bytes.bytes.items piece c.loop-bytes.invariant.taken c.in-Ok.ensures.bytes.0,
    )
