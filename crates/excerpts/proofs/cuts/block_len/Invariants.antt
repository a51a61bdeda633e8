use Rattle.std.proofs.Common.{◌≡◌, ◌+◌, drop}
use Rattle.excerpts.specs.Cuts.{block_len}
use Rattle.excerpts.proofs.cuts.block_len.Given as goal

abbrev pub invariant-loop-line : goal.invariant-loop-line
invariant-loop-line l = record {
  count : l.count ≡ l.line-index;
  value : l.count + block_len l.under (drop l.line-index l.lines) ≡ block_len l.under l.lines;
}
