use Rattle.std.proofs.Common.{◌≡◌, ℕ, ◌++◌, ◌<◌, Bool, drop, take, length, get_or}
use Rattle.std.specs.List.{list_any}
use Rattle.excerpt_rows.specs.Hunk.{covers, left_of}
use Rattle.excerpt_rows.proofs.hunk.unmarked.Given as goal

abbrev pub invariant-loop-m : goal.invariant-loop-m
invariant-loop-m l = record {
  count : length l.flags.items ≡ length l.text;
  each : (k : ℕ) (d : Bool) → k < length l.text → get_or l.flags.items k d ≡ list_any (covers k) (take l.m-index l.marks);
}

abbrev pub invariant-loop-k : goal.invariant-loop-k
invariant-loop-k l = l.left.items ++ left_of l.marks l.k (drop l.k l.text) ≡ left_of l.marks 0 l.text
