use Rattle.std.proofs.Common.{◌≡◌, ◌++◌, map, length}
use Rattle.found_reports.specs.Fixes.{fix_view}
use Rattle.line_reports.specs.Fixes.{fixes_of}
use Rattle.line_reports.specs.Gathered.{mark_parts}
use Rattle.line_reports.specs.Reports.{mark_fixes}
use Rattle.line_reports.specs.Told.{told_parts}
use Rattle.line_reports.proofs.gathered.Gathered.fixes.Given as goal

abbrev pub invariant-loop-marks : goal.invariant-loop-marks
invariant-loop-marks l =
    map fix_view l.fixes.items ++ mark_fixes l.text.text.now (map mark_parts l.marks) ≡ fixes_of l.text.text.now (told_parts l.head) ++ mark_fixes l.text.text.now (map mark_parts l.initial.marks)

abbrev pub decreases-loop-marks : goal.decreases-loop-marks
decreases-loop-marks l = length l.marks
