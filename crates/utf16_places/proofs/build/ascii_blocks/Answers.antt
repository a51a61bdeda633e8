use Rattle.std.proofs.Common.{arith}
use Rattle.utf16_places.proofs.MarkLemmas.{block_more}
use Rattle.utf16_places.proofs.build.ascii_blocks.Goals as goal

pub loop-passed-preserved : goal.loop-passed-preserved
loop-passed-preserved c = record {
  within = omega arith;
  ascii = block_more c.args.bytes.now c.loop-passed.passed 16 c.loop-passed.invariant.ascii c.if-is_ascii.ensures.cases;
}
