use Rattle.std.proofs.Common.{◌+◌, ◌<◌, ◌^◌, drop, length, map}
use Rattle.excerpt_blocks.specs.Below.{state_of}
use Rattle.excerpt_blocks.proofs.BlockLemmas.{SoFar}
use Rattle.excerpt_blocks.proofs.blocks.read_block.Given as goal

abbrev pub invariant-loop-k : goal.invariant-loop-k
invariant-loop-k l = record {
  short : length l.above < 2 ^ 32;
  so_far : let all = map (λ line. line.now) l.lines in SoFar l.first all l.roles (l.first + l.k) (drop l.k all) (drop l.k l.roles) l.above (state_of l.below);
}
