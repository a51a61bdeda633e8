-- One directory after another, from the last.
use Rattle.std.proofs.Common.{◌-◌, arith}
use Rattle.build_dirs.proofs.DirLemmas.{not_equal}
use Rattle.build_dirs.proofs.dirs.BuildDirs.last_equal.Goals as goal

pub loop-k-preserved : goal.loop-k-preserved
loop-k-preserved c = record {
  within = omega (arith, c.loop-k.invariant.within);
  last = λ j low there.
      not_equal c.args.self.now.open.items (c.loop-k.k - 1) j c.index.result.now c.args.program.now c.args.path.now c.args.level (omega (arith, c.loop-k.invariant.within)) c.index.ensures c.if-is_equal.ensures
      (λ i from same. c.loop-k.invariant.last i (omega (arith, from)) same) low there;
}
