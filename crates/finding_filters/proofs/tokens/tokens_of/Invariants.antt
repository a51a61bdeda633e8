use Rattle.std.proofs.Common.{◌≡◌, ◌++◌, false, length}
use Rattle.finding_filters.specs.Tokens.{tokens_of as tokens_in}
use Rattle.finding_filters.proofs.tokens.tokens_of.Given as goal

-- the characters that are left come next
abbrev pub invariant-loop-rest : goal.invariant-loop-rest
invariant-loop-rest l = l.tokens.items ++ tokens_in l.rule l.after_star l.rest ≡ tokens_in l.rule false l.pattern

abbrev pub decreases-loop-rest : goal.decreases-loop-rest
decreases-loop-rest l = length l.rest
