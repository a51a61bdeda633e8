-- Counts and tests of a list that was mapped.
use Rattle.std.proofs.Common.{◌≡◌, ℕ, sum, Bool, ◌||◌, cond, List, [], ◌∷◌, map, refl, sym, ap, ◌∙◌}
use Rattle.std.specs.List.{count_by, list_any}
use Rattle.std.proofs.lemmas.List.Sums.{sum-map}
use Rattle.oxc_protocol.specs.declared.protocol.Severity.{Severity}
use Rattle.found_reports.specs.declared.reports.FoundReport.{FoundReport}
use Rattle.found_reports.specs.Found.{Found, NamedHeld}
use Rattle.found_reports.specs.Kept.{report_view}
use Rattle.finding_summaries.specs.declared.counted.Level.{Level}
use Rattle.finding_summaries.specs.Counted.{is_of, one_reaches, reaches, severity_of}

map_again : {A B C : Type 0} (g : B → C) (f : A → B) (xs : List A) → map g (map f xs) ≡ map (λ x. g (f x)) xs
map_again g f [] = refl
map_again g f (x ∷ xs) = ap (λ l. g (f x) ∷ l) (map_again g f xs)

any_mapped : {A B : Type 0} (p : B → Bool) (f : A → B) (xs : List A) → list_any p (map f xs) ≡ list_any (λ x. p (f x)) xs
any_mapped p f [] = refl
any_mapped p f (x ∷ xs) = ap (λ b. p (f x) || b) (any_mapped p f xs)

-- a count of reports as they are kept
pub counted : (wanted : Severity) (files : List NamedHeld) (reports : List FoundReport) (found : List Found) → map (report_view files) reports ≡ found
    → count_by (λ (r : FoundReport). is_of wanted r.diagnostic.severity) reports ≡ count_by (λ it. is_of wanted (severity_of it)) found
counted wanted files reports found is =
    let one : Found → ℕ = λ it. cond (is_of wanted (severity_of it)) 1 0 in
    sym (sum-map (λ (r : FoundReport). cond (is_of wanted r.diagnostic.severity) 1 0) reports)
    ∙ ap sum (sym (map_again one (report_view files) reports) ∙ ap (map one) is) ∙ sum-map one found

pub reached : (at : Level) (files : List NamedHeld) (reports : List FoundReport) (found : List Found) → map (report_view files) reports ≡ found
    → list_any (λ r. reaches at r.diagnostic.severity) reports ≡ one_reaches at found
unfolding one_reaches
reached at files reports found is =
    sym (any_mapped (λ f. reaches at (severity_of f)) (report_view files) reports) ∙ ap (list_any (λ f. reaches at (severity_of f))) is
