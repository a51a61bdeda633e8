-- The items that are left decide.
use Rattle.std.proofs.Common.{◌≡◌, length, map}
use Rattle.girzohal_options.specs.Said.{said}
use Rattle.girzohal_options.specs.Together.{names_file}
use Rattle.girzohal_options.proofs.together.names_file.Given as goal

abbrev pub invariant-loop-rest : goal.invariant-loop-rest
invariant-loop-rest l = names_file (map said l.rest) ≡ names_file (map said l.items)

abbrev pub decreases-loop-rest : goal.decreases-loop-rest
decreases-loop-rest l = length l.rest
