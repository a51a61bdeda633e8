-- The edits so far.
use Rattle.std.proofs.Common.{◌≡◌, map, take}
use Rattle.found_reports.specs.Fixes.{fix_view}
use Rattle.found_reports.proofs.fixes.copied_fixes.Given as goal

abbrev pub invariant-loop-fix : goal.invariant-loop-fix
invariant-loop-fix l = map fix_view l.copy.items ≡ map fix_view (take l.fix-index l.fixes)
