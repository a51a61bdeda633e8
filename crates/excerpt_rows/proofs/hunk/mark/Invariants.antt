use Rattle.std.proofs.Common.{◌≡◌, ℕ, ◌<◌, ◌≤◌, Bool, length, get_or, min, ◌||◌, ◌&&◌, nat_le, nat_lt}
use Rattle.excerpt_rows.proofs.hunk.mark.Given as goal

abbrev pub invariant-loop-k : goal.invariant-loop-k
invariant-loop-k l = record {
  each : (k : ℕ) (d : Bool) → k < length l.initial.flags → get_or l.flags k d ≡ (get_or l.initial.flags k d || (nat_le l.start k && nat_lt k l.k));
  none : min l.end (length l.initial.flags) ≤ l.start → l.k ≤ l.start;
}
