-- Fewer lists are left.
use Rattle.std.proofs.Common.{length}
use Rattle.json_forms.proofs.read.+take_lists.Given as goal

abbrev pub decreases-take_lists : goal.decreases-take_lists
decreases-take_lists l = length l.lists.now
