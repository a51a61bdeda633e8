-- One report more.
use Rattle.std.proofs.Common.{◌≡◌, ◌-◌, ◌++◌, ◌∷◌, [], All, List, drop, take, length, map, subst, ◌∙◌}
use Rattle.std.proofs.lemmas.List.Elements.{All-head, All-tail}
use Rattle.found_reports.specs.Found.{NamedHeld}
use Rattle.found_reports.specs.Kept.{Stands, report_view}
use Rattle.found_reports.specs.declared.reports.FoundReport.{FoundReport}
use Rattle.girzohal_run.proofs.ListedLemmas.{first_listed, split_first}
use Rattle.girzohal_run.proofs.owned.append_reports.Goals as goal

pub loop-reports-preserved : goal.loop-reports-preserved
loop-reports-preserved c =
    let reports = c.loop-reports.reports.now in
    let report = c.report-item.result in
    let rest = take (length reports - 1) (drop 1 reports) in
    let own = drop c.args.first c.args.found.now.files in
    let split = split_first reports report c.in-len1-up.len_at_least c.report-item.is in
    let all = c.args.found.now.found ++ map (report_view own) c.args.reports.now in
    record {
      stand = All-tail (Stands own) report rest (subst (λ (xs : List FoundReport). All (Stands own) xs) split c.loop-reports.invariant.stand);
      added = first_listed (report_view own) report rest c.loop-reports.found.found c.append_report.new.found.found all
          (subst (λ (files : List NamedHeld). c.append_report.new.found.found ≡ c.loop-reports.found.found ++ report_view (drop c.args.first files) report ∷ []) c.loop-reports.invariant.files c.in_ok-append_report.ensures.added)
          (subst (λ (xs : List FoundReport). c.loop-reports.found.found ++ map (report_view own) xs ≡ all) split c.loop-reports.invariant.added);
      files = c.in_ok-append_report.ensures.files ∙ c.loop-reports.invariant.files;
    }
