-- The reports by what contracts see of them.
use Rattle.std.proofs.Common.{◌∙◌, ◌<◌, List, length, map, get_or, sym, ap, subst}
use Rattle.std.proofs.lemmas.List.{length-map}
use Rattle.std.specs.List.{filter_map}
use Rattle.oxc_protocol.specs.Parts.{OxcParts}
use Rattle.found_reports.specs.Found.{NamedHeld}
use Rattle.found_reports.specs.Kept.{file_view, report_view}
use Rattle.girzohal_lsp.specs.Found.{AreFitted, pick}
use Rattle.girzohal_lsp.proofs.FoundLemmas.{seen_map}
use Rattle.girzohal_lsp.proofs.found.shown_of.Goals as goal

pub picked-requires : goal.picked-requires
picked-requires c = λ k d within.
    subst (λ n. (get_or c.reports-reports.result.now k d).file < n)
    (ap length (sym c.files-files.ensures.files) ∙ length-map c.files-files.result.now file_view)
    (c.reports-reports.ensures.stand k d within).held

pub returns-clause-shown : goal.returns-clause-shown
returns-clause-shown c =
    let p = pick c.args.spelling c.args.path.now in
    let files = map file_view c.files-files.result.now in
    let reports = c.reports-reports.result.now in
    subst (λ (l : List OxcParts). AreFitted c.args.text.now l c.in_ok-shown.shown.items)
    (seen_map p (report_view files) reports
    ∙ ap (filter_map p) (ap (λ (fs : List NamedHeld). map (report_view fs) reports) c.files-files.ensures.files ∙ c.reports-reports.ensures.found))
    c.in_ok-shown.ensures.shown
