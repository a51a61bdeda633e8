-- The texts before stay.
use Rattle.std.proofs.Common.{◌≡◌, length, map}
use Rattle.std.specs.List.{list_all}
use Rattle.found_reports.specs.Fixes.{change_view}
use Rattle.report_texts.specs.Fixes.{stays}
use Rattle.report_texts.proofs.fixes.is_written.Given as goal

abbrev pub invariant-loop-rest : goal.invariant-loop-rest
invariant-loop-rest l = list_all (stays l.raw) (map change_view l.rest) ≡ list_all (stays l.raw) (map change_view l.fix.changes.items)

abbrev pub decreases-loop-rest : goal.decreases-loop-rest
decreases-loop-rest l = length l.rest
