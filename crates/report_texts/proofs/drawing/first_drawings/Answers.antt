-- All of the first were drawn.
use Rattle.std.proofs.Common.{◌∙◌, ap, length, map, sym}
use Rattle.std.proofs.lemmas.List.{length-map}
use Rattle.found_reports.specs.Kept.{file_view, report_view}
use Rattle.report_texts.specs.Texts.{drawings, drawn_count, first_drawings, look_of}
use Rattle.report_texts.proofs.RunLemmas.{all_first}
use Rattle.report_texts.proofs.drawing.first_drawings.Goals as goal

pub returns : goal.returns
unfolding first_drawings
returns c =
    let found = c.args.found.now in
    let reports = c.reports-reports.result.now in
    let are = c.reports-reports.ensures.found in
    c.loop-report.invariant.text
    ∙ ap (drawings (look_of c.args.asked.now) c.args.asked.now.raw)
    (all_first (map file_view c.files-files.result.now) found.files reports found.found c.drawn_count-count.result (drawn_count c.args.most (length found.found)) c.loop-report.report-index
    c.files-files.ensures.files are (c.drawn_count-count.ensures.count ∙ ap (drawn_count c.args.most) (sym (length-map reports (report_view found.files)) ∙ ap length are))
    c.loop-report-test.false)
