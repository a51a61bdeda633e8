use Rattle.std.proofs.Common.{◌≡◌, ◌+◌, ◌<◌, ◌^◌, length}
use Rattle.excerpt_blocks.specs.Below.{margin_from, state_of}
use Rattle.excerpt_blocks.proofs.below.Below.read_margin.Given as goal

abbrev pub invariant-loop-margin : goal.invariant-loop-margin
invariant-loop-margin l = record {
  few : l.place + length l.margin < 2 ^ 64;
  value : margin_from l.line l.place l.margin (state_of l.self) ≡ margin_from l.line l.from l.initial.margin (state_of l.initial.self);
}

abbrev pub decreases-loop-margin : goal.decreases-loop-margin
decreases-loop-margin l = length l.margin
