-- One line after another.
use Rattle.std.proofs.Common.{◌<◌, length, map, arith}
use Rattle.excerpt_blocks.proofs.BlockLemmas.{all_len, at_any, goes_on, now_at, stops}
use Rattle.excerpt_blocks.proofs.blocks.read_block.Goals as goal

pub loop-k-preserved : goal.loop-k-preserved
loop-k-preserved c =
    let within : c.loop-k.k < length (map (λ line. line.now) c.args.lines.now) = omega (arith, all_len c.args.lines.now) in
    let roles : c.loop-k.k < length c.args.roles.now = omega arith in
    record {
      short = c.in-Ok.ensures.short;
      so_far = goes_on _ _ _ _ _ _ _ _ _ _ within roles (now_at c.args.lines.now c.loop-k.k _ _ c.loop-k-test.true) (at_any c.args.roles.now c.loop-k.k _ _ roles) c.loop-k.invariant.so_far c.in-Ok.ensures.added;
    }

pub returns-in-Err-clause-refused : goal.returns-in-Err-clause-refused
returns-in-Err-clause-refused c = λ not_memory.
    let within : c.loop-k.k < length (map (λ line. line.now) c.args.lines.now) = omega (arith, all_len c.args.lines.now) in
    let roles : c.loop-k.k < length c.args.roles.now = omega arith in
    stops _ _ _ _ _ _ _ _ within roles (now_at c.args.lines.now c.loop-k.k _ _ c.loop-k-test.true) (at_any c.args.roles.now c.loop-k.k _ _ roles) c.loop-k.invariant.so_far (c.in-Err.ensures.refused not_memory)
