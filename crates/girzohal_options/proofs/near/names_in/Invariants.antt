-- The names so far are there, and the others come next.
use Rattle.std.proofs.Common.{◌≡◌, ◌++◌, drop, map}
use Rattle.girzohal_options.specs.Names.{setting_name}
use Rattle.girzohal_options.proofs.near.names_in.Given as goal

abbrev pub invariant-loop-setting : goal.invariant-loop-setting
invariant-loop-setting l = map (λ it. it.now) l.names.items ++ map setting_name (drop l.setting-index l.settings) ≡ map setting_name l.settings
