-- The items so far are there, and the others come next.
use Rattle.std.proofs.Common.{◌≡◌, ◌++◌, length, map, string_bytes}
use Rattle.girzohal_options.specs.Said.{said, said_by}
use Rattle.girzohal_options.proofs.items.items_of.Given as goal

abbrev pub invariant-loop-rest : goal.invariant-loop-rest
invariant-loop-rest l = map said l.items.items ++ said_by l.program (map string_bytes l.rest) ≡ said_by l.program (map string_bytes l.words)

abbrev pub decreases-loop-rest : goal.decreases-loop-rest
decreases-loop-rest l = length l.rest
