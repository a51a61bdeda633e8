use Rattle.std.proofs.Common.{◌+◌, ◌<◌, length, map, sym, subst}
use Rattle.std.specs.List.{filter_map}
use Rattle.found_reports.specs.Kept.{file_view, report_view}
use Rattle.found_reports.specs.declared.reports.FoundReport.{FoundReport}
use Rattle.girzohal_lsp.specs.Found.{pick}
use Rattle.girzohal_lsp.proofs.FoundLemmas.{AreSoFar, all_picked, all_stand, none_yet, one_more}
use Rattle.girzohal_lsp.proofs.found.picked.Goals as goal

pub loop-report-init : goal.loop-report-init
loop-report-init c = rw c.new-shown.ensures.items (none_yet c.args.text.now (λ (r : FoundReport). pick c.args.spelling c.args.path.now (report_view (map file_view c.args.files.now) r)) c.args.reports.now)

pub loop-report-preserved : goal.loop-report-preserved
loop-report-preserved c =
    let i = c.loop-report.report-index in
    let f = (λ (r : FoundReport). pick c.args.spelling c.args.path.now (report_view (map file_view c.args.files.now) r)) in
    subst (AreSoFar c.args.text.now f c.args.reports.now (i + 1)) (sym c.in_ok-push_some.ensures)
    (one_more c.args.text.now f c.args.reports.now i c.report-item.result c.in_ok-one.one c.loop-report.shown.items
    c.loop-report-test.true c.report-item.is c.in_ok-one.ensures c.loop-report.invariant)

pub returns-clause-shown : goal.returns-clause-shown
returns-clause-shown c =
    all_picked c.args.text.now (λ (r : FoundReport). pick c.args.spelling c.args.path.now (report_view (map file_view c.args.files.now) r)) c.args.reports.now c.loop-report.report-index c.loop-report.shown.items c.loop-report-test.false c.loop-report.invariant

pub returns-clause-stand : goal.returns-clause-stand
returns-clause-stand c =
    let f = (λ (r : FoundReport). pick c.args.spelling c.args.path.now (report_view (map file_view c.args.files.now) r)) in
    all_stand c.args.text.now (filter_map f c.args.reports.now) c.loop-report.shown.items
    (all_picked c.args.text.now f c.args.reports.now c.loop-report.report-index c.loop-report.shown.items c.loop-report-test.false c.loop-report.invariant)

pub picked_one-requires : goal.picked_one-requires
picked_one-requires c =
    subst (λ (r : FoundReport). r.file < length c.args.files.now) (sym c.report-item.is)
    (c.requires c.loop-report.report-index c.report-item.result c.loop-report-test.true)
