-- A report that was written has no fault, and is read as what is meant.
use Rattle.std.proofs.Common.{◌≡◌, ℕ, zero, suc, ◌^◌, ◌<◌, List, [], ◌∷◌, length, map, Option, Some, option_and_then, unwrap_or, sym, ap, ap₂, subst, ◌∙◌}
use Rattle.std.specs.Prelude.{slice_get}
use Rattle.std.specs.List.{All, remove}
use Rattle.std.proofs.lemmas.List.Elements.{All-cons, All-head, All-nil, All-tail}
use Rattle.serde_json.specs.Data.{Data}
use Rattle.serde_json.specs.Written.{outline}
use Rattle.codespan.specs.Texts.{NamedText, text_of}
use Rattle.oxc_span.specs.Label.{Label}
use Rattle.sarif_log.specs.declared.form.Shape.TheVariants as shape
use Rattle.sarif_log.specs.Log.{Location, Rule, location_of, log_result_of}
use Rattle.render_files.specs.Given.{GivenReport}
use Rattle.render_files.specs.Shown.{placed_labels}
use Rattle.sarif_writing.specs.Written.{file_location, head_place, label_location, place_members, result_value, said_members}
use Rattle.finding_laws.specs.Logs.Meant.{label_meant, result_meant, result_of, rule_from, rule_meant, rules_meant}
use Rattle.finding_laws.proofs.LogLemmas.List.{Fits, each_read, holds_at, read_at}
use Rattle.sarif_writing.proofs.ListLemmas.{map_remove}
use Rattle.finding_laws.proofs.LogLemmas.Part.{IsSmall, file_back, file_fits, label_back, label_fits}
use Rattle.finding_laws.proofs.LogLemmas.Result.{IsPlace, IsSmallPlace, result_back, result_fits, result_with}
use Rattle.finding_laws.proofs.LogLemmas.Rule.{index_same, index_small, rule_data}

-- a report whose numbers are of 64 bits
pub record IsSmallReport (files : List NamedText) (it : GivenReport) : Type 0 where
  pub file : it.file < 2 ^ 64
  pub labels : All (IsSmall (text_of files it.file)) (placed_labels files it)

labels_fit : (files : List NamedText) (file : ℕ) (labels : List Label) → file < 2 ^ 64 → All (IsSmall (text_of files file)) labels → All IsPlace (map (label_location files file) labels)
labels_fit files file [] small all = All-nil IsPlace
labels_fit files file (it ∷ rest) small all =
    All-cons IsPlace (label_location files file it) (map (label_location files file) rest) (label_fits files file it small (All-head (IsSmall (text_of files file)) it rest all))
    (labels_fit files file rest small (All-tail (IsSmall (text_of files file)) it rest all))

pub others_hold : {A : Type 0} (P : A → Type 0) (xs : List A) (at : ℕ) → All P xs → All P (remove xs at)
others_hold P [] zero all = all
others_hold P [] (suc at) all = all
others_hold P (x ∷ xs) zero all = All-tail P x xs all
others_hold P (x ∷ xs) (suc at) all = All-cons P x (remove xs at) (All-head P x xs all) (others_hold P xs at (All-tail P x xs all))

abbrev places_of : List NamedText → GivenReport → List Data
places_of files it = map (label_location files it.file) (placed_labels files it)

abbrev head_of : List NamedText → GivenReport → Data
head_of files it = unwrap_or (slice_get (places_of files it) (head_place (placed_labels files it))) (file_location files it.file)

abbrev others_of : List NamedText → GivenReport → List Data
others_of files it = remove (places_of files it) (head_place (placed_labels files it))

abbrev index_of : List Rule → GivenReport → Option ℕ
index_of rules it = option_and_then (rule_from 0 rules) (rule_meant it.diagnostic)

report_is : (files : List NamedText) (rules : List Rule) (it : GivenReport)
    → result_value files (map rule_data rules) it ≡ result_with (others_of files it) (head_of files it) (index_of rules it) it.diagnostic.code.number it.diagnostic.message it.diagnostic.severity
unfolding result_value place_members said_members
report_is files rules it =
    ap (λ index. result_with (others_of files it) (head_of files it) index it.diagnostic.code.number it.diagnostic.message it.diagnostic.severity) (index_same rules it.diagnostic)

pub report_fits : (files : List NamedText) (rules : List Rule) (it : GivenReport) → IsSmallReport files it → IsSmallPlace (index_of rules it)
    → Fits shape.Result 5 (result_value files (map rule_data rules) it)
report_fits files rules it small index =
    let labels = placed_labels files it in
    let all = labels_fit files it.file labels small.file small.labels in
    let fits = result_fits (others_of files it) (head_of files it) (index_of rules it) it.diagnostic.code.number it.diagnostic.message it.diagnostic.severity
    (holds_at IsPlace (places_of files it) (head_place labels) (file_location files it.file) all (file_fits files it.file small.file))
    (others_hold IsPlace (places_of files it) (head_place labels) all) index in
    subst (Fits shape.Result 5) (sym (report_is files rules it)) fits

abbrev read_location : Data → Location
read_location it = location_of (Some (outline it))

places_back : (files : List NamedText) (it : GivenReport) → IsSmallReport files it → map read_location (places_of files it) ≡ map (label_meant files it.file) (placed_labels files it)
places_back files it small =
    each_read (IsSmall (text_of files it.file)) (label_location files it.file) read_location (label_meant files it.file)
    (λ label ends. label_back files it.file label small.file ends) (placed_labels files it) small.labels

pub report_back : (files : List NamedText) (rules : List Rule) (it : GivenReport) → IsSmallReport files it → IsSmallPlace (index_of rules it)
    → log_result_of (Some (outline (result_value files (map rule_data rules) it))) ≡ result_meant files rules it
unfolding result_meant
report_back files rules it small index =
    let head = head_place (placed_labels files it) in
    let back = places_back files it small in
    let first = read_at read_location (places_of files it) head (file_location files it.file)
    ∙ ap₂ (λ places other. unwrap_or (slice_get places head) other) back (file_back files it.file small.file) in
    let rest = map_remove read_location (places_of files it) head ∙ ap (λ places. remove places head) back in
    ap (λ value. log_result_of (Some (outline value))) (report_is files rules it)
    ∙ result_back (others_of files it) (head_of files it) (index_of rules it) it.diagnostic.code.number it.diagnostic.message it.diagnostic.severity index
    ∙ ap₂ (result_of rules it.diagnostic) first rest

-- ---- all reports

pub reports_fit : (files : List NamedText) (all its : List GivenReport) → length all < 2 ^ 64 → All (IsSmallReport files) its
    → All (Fits shape.Result 5) (map (result_value files (map rule_data (rules_meant all))) its)
reports_fit files all [] few small = All-nil (Fits shape.Result 5)
reports_fit files all (it ∷ its) few small =
    All-cons (Fits shape.Result 5) (result_value files (map rule_data (rules_meant all)) it) (map (result_value files (map rule_data (rules_meant all))) its)
    (report_fits files (rules_meant all) it (All-head (IsSmallReport files) it its small) (index_small all it.diagnostic few))
    (reports_fit files all its few (All-tail (IsSmallReport files) it its small))

pub reports_back : (files : List NamedText) (all its : List GivenReport) → length all < 2 ^ 64 → All (IsSmallReport files) its
    → map (λ value. log_result_of (Some (outline value))) (map (result_value files (map rule_data (rules_meant all))) its) ≡ map (result_meant files (rules_meant all)) its
reports_back files all its few small =
    each_read (IsSmallReport files) (result_value files (map rule_data (rules_meant all))) (λ value. log_result_of (Some (outline value))) (result_meant files (rules_meant all))
    (λ it fits. report_back files (rules_meant all) it fits (index_small all it.diagnostic few)) its small
