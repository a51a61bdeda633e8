use Rattle.std.proofs.Common.{◌≡◌, ◌++◌, length}
use Rattle.line_reports.specs.Fixes.{marks_at}
use Rattle.line_reports.proofs.fixes.marks_at.Given as goal

abbrev pub invariant-loop-marks : goal.invariant-loop-marks
invariant-loop-marks l = l.all.items ++ marks_at l.row l.marks ≡ marks_at l.row l.initial.marks

abbrev pub decreases-loop-marks : goal.decreases-loop-marks
decreases-loop-marks l = length l.marks
