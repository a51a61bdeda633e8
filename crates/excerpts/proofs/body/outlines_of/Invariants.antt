use Rattle.std.proofs.Common.{◌≡◌, drop, length, map}
use Rattle.excerpts.proofs.BodyLemmas.{OutlinesSoFar}
use Rattle.excerpts.proofs.body.outlines_of.Given as goal

abbrev pub invariant-loop-line : goal.invariant-loop-line
invariant-loop-line l = record {
  all : let all = map (λ line. line.now) l.lines in OutlinesSoFar all (drop l.line-index all) l.outlines.items;
  same : length l.outlines.items ≡ l.line-index;
}
