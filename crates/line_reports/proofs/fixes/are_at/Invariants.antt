use Rattle.std.proofs.Common.{◌≡◌, map, length}
use Rattle.std.specs.List.{list_all}
use Rattle.found_reports.specs.Fixes.{change_view}
use Rattle.line_reports.specs.Fixes.{is_at}
use Rattle.line_reports.proofs.fixes.are_at.Given as goal

abbrev pub invariant-loop-changes : goal.invariant-loop-changes
invariant-loop-changes l = list_all (is_at l.first) (map change_view l.changes) ≡ list_all (is_at l.first) (map change_view l.initial.changes)

abbrev pub decreases-loop-changes : goal.decreases-loop-changes
decreases-loop-changes l = length l.changes
