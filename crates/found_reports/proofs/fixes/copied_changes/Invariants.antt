-- The changes so far.
use Rattle.std.proofs.Common.{◌≡◌, map, take}
use Rattle.found_reports.specs.Fixes.{change_view}
use Rattle.found_reports.proofs.fixes.copied_changes.Given as goal

abbrev pub invariant-loop-change : goal.invariant-loop-change
invariant-loop-change l = map change_view l.copy.items ≡ map change_view (take l.change-index l.changes)
