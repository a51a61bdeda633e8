use Rattle.std.proofs.Common.{◌≡◌, [], length}
use Rattle.changed_rows.specs.Quoted.{unquoted_from}
use Rattle.changed_rows.proofs.quoted.unquote.Given as goal

-- what is left goes on with the name
abbrev pub invariant-loop-rest : goal.invariant-loop-rest
invariant-loop-rest l = unquoted_from l.row l.name.items 0 l.rest ≡ unquoted_from l.row [] 0 l.quoted

abbrev pub decreases-loop-rest : goal.decreases-loop-rest
decreases-loop-rest l = length l.rest
