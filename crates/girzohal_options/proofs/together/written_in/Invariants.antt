-- The files so far are there, and the others come next.
use Rattle.std.proofs.Common.{◌≡◌, ◌++◌, drop, map, is_some, option_map}
use Rattle.std.specs.List.{flat_map}
use Rattle.girzohal_options.specs.Said.{said}
use Rattle.girzohal_options.specs.Lists.{listed, output_by}
use Rattle.girzohal_options.specs.Together.{to_stdout}
use Rattle.girzohal_options.proofs.together.written_in.Given as goal

abbrev pub invariant-loop-item : goal.invariant-loop-item
invariant-loop-item l =
    map (λ it. it.now) l.paths.items ++ flat_map (λ it. listed (option_map (λ output. output.1) (output_by it))) (map said (drop l.item-index l.items))
    ≡ to_stdout (is_some l.fn.to) ++ flat_map (λ it. listed (option_map (λ output. output.1) (output_by it))) (map said l.items)
