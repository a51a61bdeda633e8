-- The reports stand last to first, and come off the end one by one.
use Rattle.std.proofs.Common.{◌≡◌, ◌++◌, ◌∙◌, All, Some, ap, ap₂, map, sym, subst}
use Rattle.std.proofs.lemmas.List.{reverse-reverse}
use Rattle.std.proofs.lemmas.List.Elements.{All-pop}
use Rattle.std.proofs.lemmas.List.Sorted.{All-permutation}
use Rattle.found_reports.specs.Kept.{FoundParts, Stands, file_view, report_view}
use Rattle.found_reports.specs.Listed.{held_in}
use Rattle.indexed_sources.specs.Indexed.{AreTold}
use Rattle.json_forms.specs.Finding.{finding_view}
use Rattle.json_reports.specs.Reports.{report_of}
use Rattle.json_reports.proofs.JoinLemmas.{popped}
use Rattle.json_reports.proofs.gathered.reports_with.Goals as goal

pub loop-report-init : goal.loop-report-init
loop-report-init c =
    let told = held_in c.args.sources.now.entries.items in
    let given = map file_view c.in_ok-files.files.items in
    let reports = c.into_reports-reports.result.items in
    let same : given ≡ c.args.more.files = c.in_ok-files.ensures ∙ c.files.ensures.files in
    let stand : All (Stands given) reports = subst (λ files. All (Stands files) reports) (sym same) c.into_reports-reports.ensures.stand in
    let pushed = c.in_ok-push_all.ensures in
    let found = map (report_of told) (map finding_view c.args.findings.now) in
    let start : c.push_all.new.self.found.found ≡ found = pushed.found ∙ ap (λ (it : FoundParts). it.found ++ found) c.new-gathered.ensures.found in
    record {
      texts = pushed.texts;
      held = pushed.told;
      listed = pushed.listed;
      sourced = subst (AreTold told) (sym same) c.requires;
      stand = All-permutation (Stands given) reports c.reverse.new.self.items c.reverse.ensures.permutation stand;
      found = rw (c.reverse.ensures.items, reverse-reverse reports)
          (ap₂ (λ front back. front ++ back) start (ap (λ files. map (report_view files) reports) same ∙ c.into_reports-reports.ensures.found));
    }

pub push_report-requires-clause-stands : goal.push_report-requires-clause-stands
push_report-requires-clause-stands c =
    let given = map file_view c.in_ok-files.files.items in
    let left = All-pop (Stands given) c.loop-report.reports.items c.pop.new.self.items (Some c.in-Some.report) c.in-Some.ensures.items c.loop-report.invariant.stand in
    rw c.deref.ensures.value left.1

pub loop-report-preserved : goal.loop-report-preserved
loop-report-preserved c =
    let given = map file_view c.in_ok-files.files.items in
    let left = All-pop (Stands given) c.loop-report.reports.items c.pop.new.self.items (Some c.in-Some.report) c.in-Some.ensures.items c.loop-report.invariant.stand in
    let pushed = rw c.deref.ensures.value at c.in_ok-push_report.ensures in
    record {
      texts = pushed.texts;
      held = pushed.told;
      listed = pushed.listed;
      sourced = c.loop-report.invariant.sourced;
      stand = left.0;
      found = rw pushed.found
          (popped given c.loop-report.gathered.found.found _ c.loop-report.reports.items c.pop.new.self.items c.in-Some.report c.in-Some.ensures.items c.loop-report.invariant.found);
    }
