-- The items that are left decide.
use Rattle.std.proofs.Common.{◌≡◌, is_some, length, map}
use Rattle.std.specs.List.{list_any}
use Rattle.girzohal_options.specs.Names.{setting_name}
use Rattle.girzohal_options.specs.Said.{said, value_under}
use Rattle.girzohal_options.proofs.together.gives.Given as goal

abbrev pub invariant-loop-rest : goal.invariant-loop-rest
invariant-loop-rest l = list_any (λ it. is_some (value_under (setting_name l.setting) it)) (map said l.rest) ≡ list_any (λ it. is_some (value_under (setting_name l.setting) it)) (map said l.items)

abbrev pub decreases-loop-rest : goal.decreases-loop-rest
decreases-loop-rest l = length l.rest
