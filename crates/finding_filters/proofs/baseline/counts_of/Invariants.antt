use Rattle.std.proofs.Common.{◌≡◌, ◌≤◌, ℕ, List, map, drop}
use Rattle.finding_filters.specs.Baseline.{counted, item_parts, left_in, none_left, offers}
use Rattle.finding_filters.proofs.baseline.counts_of.Given as goal

-- the entries that are left are counted next
abbrev pub invariant-loop-entry : goal.invariant-loop-entry
invariant-loop-entry l = record {
  counted : counted (left_in l.counts) (map (offers l.round) (map item_parts (drop l.entry-index l.entries)))
      ≡ counted none_left (map (offers l.round) (map item_parts l.entries));
  few : (q : List ℕ) → left_in l.counts q ≤ l.entry-index;
}
