-- The files so far are there, and the others come next.
use Rattle.std.proofs.Common.{◌≡◌, ◌++◌, drop, map, string_bytes}
use Rattle.girzohal_options.specs.Said.{file, said}
use Rattle.girzohal_options.proofs.items.push_files.Given as goal

abbrev pub invariant-loop-name : goal.invariant-loop-name
invariant-loop-name l =
    map said l.items.items ++ map (λ name. file name) (map string_bytes (drop l.name-index l.names)) ≡ map said l.initial.items.items ++ map (λ name. file name) (map string_bytes l.names)
