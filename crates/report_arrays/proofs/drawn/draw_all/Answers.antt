-- A report of the list stands in its file, as all do.
use Rattle.std.proofs.lemmas.List.{get_or_default}
use Rattle.report_arrays.specs.Values.{report}
use Rattle.render_files.specs.Rendered.{StandsInFile}
use Rattle.render_files.proofs.ListedLemmas.{holds_at}
use Rattle.report_arrays.proofs.drawn.draw_all.Goals as goal

pub push_drawing-requires-clause-stands : goal.push_drawing-requires-clause-stands
push_drawing-requires-clause-stands c =
    holds_at (StandsInFile c.args.sources.now) (report c.args.texts.now c.args.labels.now) c.args.reports.now c.loop-report.report-index _
    c.requires c.loop-report-test.true (get_or_default c.args.reports.now c.loop-report.report-index _ _ c.loop-report-test.true)
