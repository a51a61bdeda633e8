use Rattle.std.proofs.Common.{◌≡◌}
use Rattle.changed_rows.specs.Heads.{without_folders as without_so_many}
use Rattle.changed_rows.proofs.heads.without_folders.Given as goal

-- the folders that are left are taken away next
abbrev pub invariant-loop-left : goal.invariant-loop-left
invariant-loop-left l = without_so_many l.left l.rest ≡ without_so_many l.count l.name

abbrev pub decreases-loop-left : goal.decreases-loop-left
decreases-loop-left l = l.left
