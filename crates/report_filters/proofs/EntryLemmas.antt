-- Notes of reports, with their files and without.
use Rattle.std.proofs.Common.{◌≡◌, ℕ, ◌+◌, ◌&&◌, Bool, true, false, List, [], ◌∷◌, ◌++◌, map, refl, sym, ap, subst, ◌∙◌, append_assoc}
use Rattle.std.specs.List.{All, prefix_len}
use Rattle.std.proofs.lemmas.List.Elements.{All-head, All-tail}
use Rattle.ci_formats.specs.Finding.{finding_of, finding_parts}
use Rattle.ci_formats.specs.declared.finding.Finding.{Finding}
use Rattle.finding_filters.specs.Finding.{FindingParts}
use Rattle.found_reports.specs.Found.{Found, NamedHeld}
use Rattle.found_reports.specs.Kept.{Stands, report_view}
use Rattle.found_reports.specs.declared.reports.FoundReport.{FoundReport}
use Rattle.report_filters.specs.Entries.{entries_from, entry_of, is_more, is_note, new_entry, notes_first, notes_in}

same_run : (files : List NamedHeld) (reports : List FoundReport) → prefix_len (λ report. is_more report.diagnostic) reports ≡ prefix_len is_note (map (report_view files) reports)
same_run files [] = refl
same_run files (report ∷ rest) = rw (same_run files rest) refl

pub same_notes : (notes : Bool) (files : List NamedHeld) (reports : List FoundReport) → notes_in notes reports ≡ notes_first notes (map (report_view files) reports)
same_notes true files reports = same_run files reports
same_notes false files reports = refl

-- ---- one report after another

pub none_new : (front : List ℕ) (rows notes inside : Bool) (it : Found) (rest : List Found) → (notes && inside) && is_note it ≡ true → new_entry front rows notes inside it rest ≡ []
unfolding new_entry
none_new front rows notes inside it rest is = rw is refl

pub one_new : (front : List ℕ) (rows notes inside : Bool) (files : List NamedHeld) (report : FoundReport) (others : List FoundReport) (entry : FindingParts) (count : ℕ)
    → (notes && inside) && is_more report.diagnostic ≡ false → count ≡ notes_in notes others → entry ≡ entry_of front rows (count + 1) (report_view files report)
    → entry ∷ [] ≡ new_entry front rows notes inside (report_view files report) (map (report_view files) others)
unfolding new_entry
one_new front rows notes inside files report others entry count is counted made =
    rw is (ap (λ it. it ∷ []) (made ∙ ap (λ n. entry_of front rows (n + 1) (report_view files report)) (counted ∙ same_notes notes files others)))

pub entries_on : (front : List ℕ) (rows notes inside : Bool) (before new all : List FindingParts) (it : Found) (rest : List Found) → new ≡ before ++ new_entry front rows notes inside it rest
    → before ++ entries_from front rows notes inside (it ∷ rest) ≡ all → new ++ entries_from front rows notes true rest ≡ all
entries_on front rows notes inside before new all it rest is so =
    rw is (append_assoc before (new_entry front rows notes inside it rest) (entries_from front rows notes true rest) ∙ so)

pub told_on : (files : List NamedHeld) (told more : List Finding) (rest others : List FoundReport) (finding : Finding) (report : FoundReport) → told ≡ finding ∷ more → rest ≡ report ∷ others
    → map finding_parts told ≡ map finding_of (map (report_view files) rest)
    → (finding_parts finding ≡ finding_of (report_view files report)) × (map finding_parts more ≡ map finding_of (map (report_view files) others))
told_on files told more rest others finding report first second same =
    let here : finding_parts finding ∷ map finding_parts more ≡ finding_of (report_view files report) ∷ map finding_of (map (report_view files) others) =
    sym (ap (map finding_parts) first) ∙ (same ∙ ap (λ rs. map finding_of (map (report_view files) rs)) second) in
    (cc, cc)

pub stand_on : (files : List NamedHeld) (rest others : List FoundReport) (report : FoundReport) → rest ≡ report ∷ others → All (Stands files) rest → Stands files report × All (Stands files) others
stand_on files rest others report is stand =
    let here : All (Stands files) (report ∷ others) = subst (All (Stands files)) is stand in
    (All-head (Stands files) report others here, All-tail (Stands files) report others here)
