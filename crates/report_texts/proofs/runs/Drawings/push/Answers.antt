-- The first reports are drawn.
use Rattle.std.proofs.Common.{◌++◌, length, map, string_bytes, take, ap, sym, ◌∙◌, subst, arith}
use Rattle.std.proofs.lemmas.List.{length-map}
use Rattle.found_reports.specs.Kept.{file_view, report_view}
use Rattle.report_texts.specs.Texts.{drawings, drawn_count}
use Rattle.report_texts.proofs.RunLemmas.{all_first}
use Rattle.report_texts.proofs.runs.Drawings.push.Goals as goal

pub returns-clause-text : goal.returns-clause-text
returns-clause-text c =
    c.loop-report.invariant.text
    ∙ ap (λ found. string_bytes c.args.text.now ++ drawings c.args.self.now.look c.args.self.now.raw found)
    (all_first (map file_view c.files-files.result.now) c.args.found.now.files c.reports-reports.result.now c.args.found.now.found c.drawn_count.result
    (drawn_count c.args.most (length c.args.found.now.found)) c.loop-report.report-index c.files-files.ensures.files c.reports-reports.ensures.found
    (c.drawn_count.ensures.count ∙ ap (drawn_count c.args.most) (sym (length-map c.reports-reports.result.now (report_view c.args.found.now.files)) ∙ ap length c.reports-reports.ensures.found))
    (omega arith))
