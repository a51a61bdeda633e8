-- The outputs so far are there, and the others come next.
use Rattle.std.proofs.Common.{◌≡◌, ◌++◌, drop, map}
use Rattle.girzohal_options.specs.Said.{said}
use Rattle.girzohal_options.specs.Lists.{output_parts, outputs_in}
use Rattle.girzohal_options.proofs.lists.outputs_in.Given as goal

abbrev pub invariant-loop-item : goal.invariant-loop-item
invariant-loop-item l = map output_parts l.outputs.items ++ outputs_in (map said (drop l.item-index l.items)) ≡ outputs_in (map said l.items)
