use Rattle.std.proofs.Common.{◌≡◌, ◌+◌, drop}
use Rattle.excerpts.specs.Cuts.{loose_run}
use Rattle.excerpts.proofs.cuts.loose_run.Given as goal

abbrev pub invariant-loop-line : goal.invariant-loop-line
invariant-loop-line l = record {
  count : l.count ≡ l.line-index;
  value : l.count + loose_run (drop l.line-index l.lines) ≡ loose_run l.lines;
}
