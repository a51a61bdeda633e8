-- Those so far.
use Rattle.std.proofs.Common.{◌≡◌, map, take}
use Rattle.found_reports.specs.Fixes.{fix_view}
use Rattle.found_reports.specs.Kept.{report_view}
use Rattle.report_texts.specs.Fixes.{given_fixes}
use Rattle.report_texts.proofs.texts.given_fixes.Given as goal

abbrev pub invariant-loop-report : goal.invariant-loop-report
invariant-loop-report l =
    map (λ own. map fix_view own.now) l.fixes.items ≡ map (given_fixes l.raw) (map (report_view l.found.files) (take l.report-index l.reports))
