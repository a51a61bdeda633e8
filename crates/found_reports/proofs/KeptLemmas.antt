-- Reports stay what they are when files are added.
use Rattle.std.proofs.Common.{◌≡◌, ℕ, ◌<◌, List, [], ◌∷◌, ◌++◌, length, map, refl, ap, ap₂}
use Rattle.std.specs.List.{All}
use Rattle.std.proofs.Math.ListN.{get_or-append}
use Rattle.std.proofs.lemmas.List.Elements.{All-head, All-tail}
use Rattle.found_reports.specs.Found.{NamedHeld, file_at}
use Rattle.found_reports.specs.Kept.{Stands, report_on, report_view}
use Rattle.found_reports.specs.declared.reports.FoundReport.{FoundReport}

file_more : (files more : List NamedHeld) (number : ℕ) → number < length files → file_at (files ++ more) number ≡ file_at files number
file_more files more number within = get_or-append files more _ number within

pub views_more : (files more : List NamedHeld) (reports : List FoundReport) → All (Stands files) reports → map (report_view (files ++ more)) reports ≡ map (report_view files) reports
views_more files more [] stand = refl
views_more files more (report ∷ rest) stand =
    let here : Stands files report = All-head (Stands files) report rest stand in
    let first : report_view (files ++ more) report ≡ report_view files report = ap (λ file. report_on file report) (file_more files more report.file here.held) in
    ap₂ (λ x xs. x ∷ xs) first (views_more files more rest (All-tail (Stands files) report rest stand))
