use Rattle.std.proofs.Common.{◌≡◌, ◌+◌, drop}
use Rattle.excerpts.specs.Cuts.{indented_len}
use Rattle.excerpts.proofs.cuts.indented_len.Given as goal

abbrev pub invariant-loop-line : goal.invariant-loop-line
invariant-loop-line l = record {
  count : l.count ≡ l.line-index;
  value : l.count + indented_len (drop l.line-index l.lines) ≡ indented_len l.lines;
}
