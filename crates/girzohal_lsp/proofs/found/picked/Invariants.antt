-- The reports so far, and those to come.
use Rattle.std.proofs.Common.{map}
use Rattle.found_reports.specs.Kept.{file_view, report_view}
use Rattle.girzohal_lsp.specs.Found.{pick}
use Rattle.girzohal_lsp.proofs.FoundLemmas.{AreSoFar}
use Rattle.girzohal_lsp.proofs.found.picked.Given as goal

abbrev pub invariant-loop-report : goal.invariant-loop-report
invariant-loop-report l =
    AreSoFar l.text (λ report. pick l.spelling l.path (report_view (map file_view l.files) report)) l.reports l.report-index l.shown.items
