-- Reports that were on other files.
use Rattle.std.proofs.Common.{◌≡◌, ℕ, zero, suc, ◌<◌, List, [], ◌∷◌, ◌++◌, length, map, reverse, get_or, sym, ap, ◌∙◌, arith, append_assoc, string_bytes}
use Rattle.std.proofs.lemmas.List.{reverse-append}
use Rattle.std.proofs.lemmas.List.Elements.{All-head, All-tail}
use Rattle.found_reports.specs.Found.{Found, NamedHeld, file_at}
use Rattle.found_reports.specs.Held.{Held}
use Rattle.found_reports.specs.Kept.{file_view, report_view}
use Rattle.found_reports.proofs.OnceLemmas.{file_seen}
use Rattle.found_reports.specs.declared.reports.FoundFile.{FoundFile}
use Rattle.found_reports.specs.declared.reports.FoundReport.{FoundReport}
use Rattle.indexed_sources.specs.Indexed.{AreTold}
use Rattle.line_reports.specs.Reports.{named_file}

told_here : (told : List ℕ → Held) (files : List NamedHeld) (k : ℕ) → k < length files → AreTold told files → named_file told (file_at files k).name ≡ file_at files k
told_here told [] k low are = absurd (omega (arith, low))
told_here told (file ∷ files) zero low are =
    let is : file.held ≡ told file.name = All-head (λ (it : NamedHeld). it.held ≡ told it.name) file files are in ap (λ held. record { name = file.name; held = held }) (sym is)
told_here told (file ∷ files) (suc k) low are = told_here told files k (omega (arith, low)) (All-tail (λ (it : NamedHeld). it.held ≡ told it.name) file files are)

-- the file of a name is the one that was given
pub same_file_at : (told : List ℕ → Held) (given : List FoundFile) (k : ℕ) (file : FoundFile) (at : NamedHeld) → k < length given → file ≡ get_or given k file
    → AreTold told (map file_view given) → k < length (map file_view given) → at ≡ named_file told (string_bytes file.name) → at ≡ file_at (map file_view given) k
same_file_at told given k file at low is are within named =
    named ∙ ap (λ (it : NamedHeld). named_file told it.name) (file_seen given k file low is) ∙ told_here told (map file_view given) k within are

-- the last of those that are left
pub popped : (given : List NamedHeld) (before all : List Found) (old rest : List FoundReport) (report : FoundReport) → old ≡ rest ++ report ∷ []
    → before ++ map (report_view given) (reverse old) ≡ all → (before ++ report_view given report ∷ []) ++ map (report_view given) (reverse rest) ≡ all
popped given before all old rest report is so =
    append_assoc before (report_view given report ∷ []) (map (report_view given) (reverse rest))
    ∙ (ap (λ rs. before ++ map (report_view given) rs) (sym (ap reverse is ∙ reverse-append rest (report ∷ []))) ∙ so)
