-- Those before can be written.
use Rattle.std.proofs.Common.{◌≡◌, length, map}
use Rattle.found_reports.specs.Fixes.{fix_view}
use Rattle.report_texts.specs.Fixes.{are_written}
use Rattle.report_texts.proofs.fixes.fixes_of.Given as goal

abbrev pub invariant-loop-rest : goal.invariant-loop-rest
invariant-loop-rest l = are_written l.raw (map fix_view l.rest) ≡ are_written l.raw (map fix_view l.fixes)

abbrev pub decreases-loop-rest : goal.decreases-loop-rest
decreases-loop-rest l = length l.rest
