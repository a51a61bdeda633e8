-- The files so far are there, and the others come next.
use Rattle.std.proofs.Common.{◌≡◌, ◌++◌, drop, map, string_bytes}
use Rattle.girzohal_options.specs.Said.{said}
use Rattle.girzohal_options.specs.Lists.{files_in}
use Rattle.girzohal_options.proofs.lists.files_in.Given as goal

abbrev pub invariant-loop-item : goal.invariant-loop-item
invariant-loop-item l = map string_bytes l.files.items ++ files_in (map said (drop l.item-index l.items)) ≡ files_in (map said l.items)
