-- A write takes the front of the rest.
use Rattle.std.proofs.Common.{◌++◌, take, arith}
use Rattle.oxc_protocol.proofs.Appending.{Appends-trans, split_after}
use Rattle.oxc_protocol.proofs.sink.write_all.Goals as goal

pub loop-rest-preserved : goal.loop-rest-preserved
loop-rest-preserved g c =
    let before = c.loop-rest.invariant.written in
    record {
      written = (
        before.0 ++ take c.in_ok-count.count c.loop-rest.rest.now,
        split_after before.0 c.loop-rest.rest.now c.args.bytes.now c.in_ok-count.count before.1,
        Appends-trans _ _ _ before.0 (take c.in_ok-count.count c.loop-rest.rest.now) before.2 c.in_ok-count.ensures.bytes,
      );
      later = omega (arith, c.write.ensures.cause.later);
    }
