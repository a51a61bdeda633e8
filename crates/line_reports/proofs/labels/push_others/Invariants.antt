use Rattle.std.proofs.Common.{◌≡◌, ◌++◌, false, map, length}
use Rattle.line_reports.specs.Drawings.{placed_parts}
use Rattle.line_reports.specs.Reports.{others_from}
use Rattle.line_reports.proofs.labels.push_others.Given as goal

abbrev pub invariant-loop-placed : goal.invariant-loop-placed
invariant-loop-placed l =
    l.labels.items ++ others_from l.primary l.bare l.meeting l.range l.found (map placed_parts l.placed) ≡ l.initial.labels.items ++ others_from l.primary l.bare l.meeting l.range false (map placed_parts l.initial.placed)

abbrev pub decreases-loop-placed : goal.decreases-loop-placed
decreases-loop-placed l = length l.placed
