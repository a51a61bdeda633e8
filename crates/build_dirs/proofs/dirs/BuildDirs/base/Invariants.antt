use Rattle.std.proofs.Common.{◌≡◌, ◌≤◌, take, length}
use Rattle.build_dirs.specs.Dirs.{base_of, opens_of}
use Rattle.build_dirs.proofs.dirs.BuildDirs.base.Given as goal

abbrev pub invariant-loop-k : goal.invariant-loop-k
invariant-loop-k l = record {
  within : l.k ≤ length l.self.open.items;
  rest : base_of (take l.k (opens_of l.self)) l.level ≡ base_of (opens_of l.self) l.level;
}

abbrev pub decreases-loop-k : goal.decreases-loop-k
decreases-loop-k l = l.k
