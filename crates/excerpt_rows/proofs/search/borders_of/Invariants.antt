use Rattle.std.proofs.Common.{◌≡◌, ◌+◌, length}
use Rattle.excerpt_rows.specs.Search.{AreBorders, IsLongest}
use Rattle.excerpt_rows.proofs.search.borders_of.Given as goal

abbrev pub invariant-loop-k : goal.invariant-loop-k
invariant-loop-k l = record {
  count : length l.borders.items ≡ l.k + 1;
  borders : AreBorders l.core l.borders.items l.k;
  border : IsLongest l.core l.core l.k l.k l.border;
}
