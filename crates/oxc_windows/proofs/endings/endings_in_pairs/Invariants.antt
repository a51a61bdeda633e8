use Rattle.std.proofs.Common.{◌≡◌, ◌+◌, ◌==◌, ◌||◌, length, sum_by, count_by}
use Rattle.std.specs.List.{list_any}
use Rattle.oxc_windows.proofs.endings.endings_in_pairs.Given as goal

abbrev pub invariant-loop-rest : goal.invariant-loop-rest
invariant-loop-rest l = record {
  total : l.line_feeds + sum_by (λ pair. count_by (λ byte. byte == 10) pair) l.rest ≡ sum_by (λ pair. count_by (λ byte. byte == 10) pair) l.pairs;
  found : (l.has_return || list_any (λ pair. list_any (λ byte. byte == 13) pair) l.rest) ≡ list_any (λ pair. list_any (λ byte. byte == 13) pair) l.pairs;
}

abbrev pub decreases-loop-rest : goal.decreases-loop-rest
decreases-loop-rest l = length l.rest
