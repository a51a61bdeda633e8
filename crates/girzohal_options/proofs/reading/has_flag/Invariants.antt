-- The items that are left decide.
use Rattle.std.proofs.Common.{◌≡◌, length, map}
use Rattle.girzohal_options.specs.Said.{said}
use Rattle.girzohal_options.specs.Reads.{has_flag}
use Rattle.girzohal_options.proofs.reading.has_flag.Given as goal

abbrev pub invariant-loop-rest : goal.invariant-loop-rest
invariant-loop-rest l = has_flag l.name (map said l.rest) ≡ has_flag l.name (map said l.items)

abbrev pub decreases-loop-rest : goal.decreases-loop-rest
decreases-loop-rest l = length l.rest
