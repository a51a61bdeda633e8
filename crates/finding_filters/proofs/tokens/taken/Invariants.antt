use Rattle.std.proofs.Common.{◌≡◌, ℕ, Bool, List, length}
use Rattle.finding_filters.specs.Tokens.{end_of, row_of, takes_all}
use Rattle.finding_filters.proofs.tokens.taken.Given as goal

-- the tokens that are left go on with the test of the row
abbrev pub invariant-loop-rest : goal.invariant-loop-rest
invariant-loop-rest l = (test : List ℕ → Bool) × (l.row.items ≡ row_of test l.text) × (takes_all test l.rest ≡ takes_all (end_of l.fn.ending) l.fn.tokens)

abbrev pub decreases-loop-rest : goal.decreases-loop-rest
decreases-loop-rest l = length l.rest
