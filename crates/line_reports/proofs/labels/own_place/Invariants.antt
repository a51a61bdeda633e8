use Rattle.std.proofs.Common.{◌≡◌, map, length}
use Rattle.std.specs.List.{find}
use Rattle.line_reports.specs.Drawings.{placed_parts}
use Rattle.line_reports.specs.Reports.{marks_own}
use Rattle.line_reports.proofs.labels.own_place.Given as goal

abbrev pub invariant-loop-placed : goal.invariant-loop-placed
invariant-loop-placed l = find (marks_own l.bare l.meeting l.range) (map placed_parts l.placed) ≡ find (marks_own l.bare l.meeting l.range) (map placed_parts l.initial.placed)

abbrev pub decreases-loop-placed : goal.decreases-loop-placed
decreases-loop-placed l = length l.placed
