use Rattle.std.proofs.Common.{◌≡◌, ℕ, ◌≤◌, Some, slice_get, length}
use Rattle.build_dirs.specs.Dirs.{opens_of}
use Rattle.build_dirs.proofs.dirs.BuildDirs.last_equal.Given as goal

abbrev pub invariant-loop-k : goal.invariant-loop-k
invariant-loop-k l = record {
  within : l.k ≤ length l.self.open.items;
  last : (j : ℕ) → l.k ≤ j → slice_get (opens_of l.self) j ≡ Some (record { program = l.program; level = l.level; path = l.path }) → ⊥;
}

abbrev pub decreases-loop-k : goal.decreases-loop-k
decreases-loop-k l = l.k
