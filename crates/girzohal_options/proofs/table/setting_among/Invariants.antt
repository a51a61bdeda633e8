-- The options that are left decide.
use Rattle.std.proofs.Common.{◌≡◌, length}
use Rattle.girzohal_options.specs.Names.{setting_in}
use Rattle.girzohal_options.proofs.table.setting_among.Given as goal

abbrev pub invariant-loop-settings : goal.invariant-loop-settings
invariant-loop-settings l = setting_in l.settings l.name ≡ setting_in l.initial.settings l.name

abbrev pub decreases-loop-settings : goal.decreases-loop-settings
decreases-loop-settings l = length l.settings
