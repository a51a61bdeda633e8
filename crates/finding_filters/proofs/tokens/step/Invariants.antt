use Rattle.std.proofs.Common.{◌≡◌, ◌++◌, length}
use Rattle.finding_filters.specs.Tokens.{step_row, stepped}
use Rattle.finding_filters.proofs.tokens.step.Given as goal

-- the characters that are left come next
abbrev pub invariant-loop-rest : goal.invariant-loop-rest
invariant-loop-rest l = l.new.items ++ stepped l.token l.last l.rest l.row ≡ step_row l.token l.text l.fn.row

abbrev pub decreases-loop-rest : goal.decreases-loop-rest
decreases-loop-rest l = length l.rest
