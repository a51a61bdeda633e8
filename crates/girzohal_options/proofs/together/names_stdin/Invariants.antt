-- The items that are left decide.
use Rattle.std.proofs.Common.{◌≡◌, length, map}
use Rattle.std.specs.List.{list_any}
use Rattle.girzohal_options.specs.Said.{file_named, said}
use Rattle.girzohal_options.specs.Together.{is_stdin}
use Rattle.girzohal_options.proofs.together.names_stdin.Given as goal

abbrev pub invariant-loop-rest : goal.invariant-loop-rest
invariant-loop-rest l = list_any (λ it. is_stdin (file_named it)) (map said l.rest) ≡ list_any (λ it. is_stdin (file_named it)) (map said l.items)

abbrev pub decreases-loop-rest : goal.decreases-loop-rest
decreases-loop-rest l = length l.rest
