-- The values so far are there, and the others come next.
use Rattle.std.proofs.Common.{◌≡◌, ◌++◌, drop, map, string_bytes}
use Rattle.girzohal_options.specs.Names.{setting_name}
use Rattle.girzohal_options.specs.Said.{said}
use Rattle.girzohal_options.specs.Lists.{texts_under}
use Rattle.girzohal_options.proofs.lists.texts_in.Given as goal

abbrev pub invariant-loop-item : goal.invariant-loop-item
invariant-loop-item l =
    map string_bytes l.texts.items ++ texts_under (setting_name l.setting) (map said (drop l.item-index l.items)) ≡ texts_under (setting_name l.setting) (map said l.items)
