-- Lists beside lists: files that weren't read, and the places and edits of reports.
use Rattle.std.proofs.Common.{◌≡◌, ℕ, suc, zero, ◌+◌, ◌<◌, Bool, false, List, [], ◌∷◌, ◌++◌, length, map, get_or, take, drop, Option, None, refl, sym, ap, ap₂, ◌∙◌, arith}
use Rattle.std.specs.Prelude.{slice_index_or}
use Rattle.std.proofs.lemmas.List.{get_or-map, get_or_default, length-map, map_push, take-map}
use Rattle.serde_json.specs.Data.{Data, array}
use Rattle.serde_json.specs.View.{items_of, view}
use Rattle.serde_json.specs.declared.value.Value.{Value}
use Rattle.codespan.specs.Texts.{NamedText, file_at, name_of, text_of}
use Rattle.found_reports.specs.Fixes.{ChangeParts}
use Rattle.found_reports.specs.declared.places.GivenPlace.{GivenPlace}
use Rattle.render_files.specs.declared.places.FileReport.{FileReport}
use Rattle.render_files.specs.Given.{GivenReport, given_report}
use Rattle.sarif_writing.specs.Rules.{rules_of}
use Rattle.sarif_writing.specs.Written.{artifact_value, bare_location, file_location, file_value, log_of, log_value, log_with, map_beside, map_between, placed_value, result_value, run_of, run_value, run_with, tool_value}

-- beside nothing
alone : {A B C : Type 0} (f : B → A → C) (other : B) (its : List A) → map_beside f other [] its ≡ map (f other) its
alone f other [] = refl
alone f other (it ∷ its) = ap (λ rest. f other it ∷ rest) (alone f other its)

-- one more
one_more : {A B C : Type 0} (f : B → A → C) (other : B) (besides : List B) (its : List A) (at : ℕ) (it : A) → at < length its → it ≡ get_or its at it
    → map_beside f other besides (take (suc at) its) ≡ map_beside f other besides (take at its) ++ f (get_or besides at other) it ∷ []
one_more f other besides [] at it within is = absurd (omega arith)
one_more f other [] (x ∷ its) zero it within is = ap (λ x. f other x ∷ []) (sym is)
one_more f other (beside ∷ besides) (x ∷ its) zero it within is = ap (λ x. f beside x ∷ []) (sym is)
one_more f other [] (x ∷ its) (suc at) it within is = ap (λ rest. f other x ∷ rest) (one_more f other [] its at it (omega arith) is)
one_more f other (beside ∷ besides) (x ∷ its) (suc at) it within is =
    ap (λ rest. f beside x ∷ rest) (one_more f other besides its at it (omega arith) is)

next : {A B C : Type 0} (f : B → A → C) (other : B) (besides : List B) (its : List A) (at : ℕ) (it : A) → at < length its → it ≡ get_or its at it
    → map_beside f other besides (take (at + 1) its) ≡ map_beside f other besides (take at its) ++ f (slice_index_or besides at other) it ∷ []
next f other besides its at it within is =
    let same : at + 1 ≡ suc at = omega arith in
    ap (λ n. map_beside f other besides (take n its)) same ∙ one_more f other besides its at it within is

-- ---- beside two lists

later : {A : Type 0} (xs : List A) (at : ℕ) (d : A) → get_or (drop 1 xs) at d ≡ get_or xs (suc at) d
later [] zero d = refl
later [] (suc at) d = refl
later (x ∷ xs) at d = refl

one_between : {A B C D : Type 0} (f : B → C → A → D) (other : B) (last : C) (besides : List B) (more : List C) (its : List A) (at : ℕ) (it : A) → at < length its → it ≡ get_or its at it
    → map_between f other last besides more (take (suc at) its)
    ≡ map_between f other last besides more (take at its) ++ f (get_or besides at other) (get_or more at last) it ∷ []
one_between f other last besides more [] at it within is = absurd (omega arith)
one_between f other last besides more (x ∷ its) zero it within is = ap (λ x. f (get_or besides 0 other) (get_or more 0 last) x ∷ []) (sym is)
one_between f other last besides more (x ∷ its) (suc at) it within is =
    ap (λ rest. f (get_or besides 0 other) (get_or more 0 last) x ∷ rest)
    (one_between f other last (drop 1 besides) (drop 1 more) its at it (omega arith) is
    ∙ ap₂ (λ b m. map_between f other last (drop 1 besides) (drop 1 more) (take at its) ++ f b m it ∷ []) (later besides at other) (later more at last))

next_between : {A B C D : Type 0} (f : B → C → A → D) (other : B) (last : C) (besides : List B) (more : List C) (its : List A) (at : ℕ) (it : A) → at < length its → it ≡ get_or its at it
    → map_between f other last besides more (take (at + 1) its)
    ≡ map_between f other last besides more (take at its) ++ f (slice_index_or besides at other) (slice_index_or more at last) it ∷ []
next_between f other last besides more its at it within is =
    let same : at + 1 ≡ suc at = omega arith in
    ap (λ n. map_between f other last besides more (take n its)) same ∙ one_between f other last besides more its at it within is

-- ---- files and reports, one more

next_file : (unread : List Bool) (files : List NamedText) (at : ℕ) → at < length files
    → map_beside file_value false unread (take (at + 1) files)
    ≡ map_beside file_value false unread (take at files) ++ file_value (slice_index_or unread at false) (record { name = name_of files at; text = text_of files at }) ∷ []
next_file unread files at within =
    next file_value false unread files at (file_at files at) within (get_or_default files at (record { name = []; text = [] }) (file_at files at) within)

next_report : (files : List NamedText) (rules : List Data) (places : List (Option GivenPlace)) (fixes : List (List (List ChangeParts))) (reports : List FileReport) (at : ℕ) (report : FileReport)
    → at < length reports → report ≡ get_or reports at report
    → map_between (placed_value files rules) None [] places fixes (map given_report (take (at + 1) reports))
    ≡ map_between (placed_value files rules) None [] places fixes (map given_report (take at reports))
    ++ placed_value files rules (slice_index_or places at None) (slice_index_or fixes at []) (given_report report) ∷ []
next_report files rules places fixes reports at report within is =
    let f = placed_value files rules in
    let long : at < length (map given_report reports) = omega (arith, within, length-map reports given_report) in
    let there : given_report report ≡ get_or (map given_report reports) at (given_report report) =
    ap given_report is ∙ sym (get_or-map given_report reports at report (given_report report) within) in
    ap (map_between f None [] places fixes) (sym (take-map given_report (at + 1) reports))
    ∙ next_between f None [] places fixes (map given_report reports) at (given_report report) long there
    ∙ ap (λ its. map_between f None [] places fixes its ++ f (slice_index_or places at None) (slice_index_or fixes at []) (given_report report) ∷ []) (take-map given_report at reports)

-- what was written so far, and one more
pub more_files : (unread : List Bool) (files : List NamedText) (before after : List Value) (value : Value) (is_unread : Bool) (file at : ℕ) → at < length files → file ≡ at
    → is_unread ≡ slice_index_or unread at false → after ≡ before ++ value ∷ []
    → view value ≡ file_value is_unread (record { name = name_of files file; text = text_of files file })
    → map view before ≡ map_beside file_value false unread (take at files) → map view after ≡ map_beside file_value false unread (take (at + 1) files)
more_files unread files before after value is_unread file at within same flag pushed is so_far =
    let first : file_value is_unread (record { name = name_of files file; text = text_of files file }) ≡ file_value is_unread (record { name = name_of files at; text = text_of files at }) =
    ap (λ n. file_value is_unread (record { name = name_of files n; text = text_of files n })) same in
    let second : file_value is_unread (record { name = name_of files at; text = text_of files at })
    ≡ file_value (slice_index_or unread at false) (record { name = name_of files at; text = text_of files at }) =
    ap (λ b. file_value b (record { name = name_of files at; text = text_of files at })) flag in
    ap (map view) pushed ∙ map_push view before value ∙ ap₂ (λ l x. l ++ x ∷ []) so_far (is ∙ first ∙ second) ∙ sym (next_file unread files at within)

pub more_results : (files : List NamedText) (rules : List Data) (places : List (Option GivenPlace)) (fixes : List (List (List ChangeParts))) (reports : List FileReport)
    (before after : List Value) (value : Value) (place : Option GivenPlace) (own : List (List ChangeParts)) (at : ℕ) (report : FileReport)
    → at < length reports → report ≡ get_or reports at report → place ≡ slice_index_or places at None → own ≡ slice_index_or fixes at []
    → after ≡ before ++ value ∷ [] → view value ≡ placed_value files rules place own (given_report report)
    → map view before ≡ map_between (placed_value files rules) None [] places fixes (map given_report (take at reports))
    → map view after ≡ map_between (placed_value files rules) None [] places fixes (map given_report (take (at + 1) reports))
more_results files rules places fixes reports before after value place own at report within there placed fixed pushed is so_far =
    let second : placed_value files rules place own (given_report report) ≡ placed_value files rules (slice_index_or places at None) (slice_index_or fixes at []) (given_report report) =
    ap₂ (λ p o. placed_value files rules p o (given_report report)) placed fixed in
    ap (map view) pushed ∙ map_push view before value ∙ ap₂ (λ l x. l ++ x ∷ []) so_far (is ∙ second) ∙ sym (next_report files rules places fixes reports at report within there)

-- ---- a log in which all files were read, and no report has a place or an edit

same_result : (files : List NamedText) (rules : List Data) (it : GivenReport) → placed_value files rules None [] it ≡ result_value files rules it
unfolding placed_value result_value bare_location file_location
same_result files rules it = refl

same_results : (files : List NamedText) (rules : List Data) (its : List GivenReport) → map_between (placed_value files rules) None [] [] [] its ≡ map (result_value files rules) its
same_results files rules [] = refl
same_results files rules (it ∷ its) = ap₂ (λ first rest. first ∷ rest) (same_result files rules it) (same_results files rules its)

same_run : (tool : List ℕ) (files : List NamedText) (its : List GivenReport) → run_with tool files [] its [] [] ≡ run_value tool files its
unfolding run_with run_value
same_run tool files its =
    let rules = rules_of its in
    ap₂ (λ artifacts results. run_of (array (items_of artifacts)) (array (items_of results)) (tool_value tool (array (items_of rules))))
    (alone file_value false files) (same_results files rules its)

pub log_alone : (tool : List ℕ) (files : List NamedText) (its : List GivenReport) → log_with tool files [] its [] [] ≡ log_value tool files its
log_alone tool files its = ap log_of (same_run tool files its)
