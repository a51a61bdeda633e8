use Rattle.std.proofs.Common.{length}
use Rattle.excerpt_rows.specs.Search.{IsLongest}
use Rattle.excerpt_rows.proofs.SearchLemmas.{FoundBy}
use Rattle.excerpt_rows.proofs.search.only_place.Given as goal

abbrev pub invariant-loop-k : goal.invariant-loop-k
invariant-loop-k l = record {
  longest : IsLongest l.core l.text (length l.core) l.k l.matched;
  found : FoundBy l.core l.text l.k l.found;
}
