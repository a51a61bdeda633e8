use Rattle.std.proofs.Common.{◌≡◌, ℕ, ◌≤◌, slice_index}
use Rattle.excerpt_rows.specs.Search.{EndsWith}
use Rattle.excerpt_rows.proofs.search.next.Given as goal

-- no longer end goes on with the character
abbrev pub invariant-loop-end : goal.invariant-loop-end
invariant-loop-end l = record {
  less : l.end ≤ l.matched;
  ends : EndsWith l.core l.core l.matched l.end;
  most : (other : ℕ) → EndsWith l.core l.core l.matched other → slice_index l.core other ≡ l.c → other ≤ l.end;
}

abbrev pub decreases-loop-end : goal.decreases-loop-end
decreases-loop-end l = l.end
