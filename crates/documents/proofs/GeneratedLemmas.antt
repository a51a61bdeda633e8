-- One row and one report more.
use Rattle.std.proofs.Common.{◌≡◌, ℕ, zero, suc, ◌+◌, ◌≤◌, [], ◌∷◌, ◌++◌, map, false, refl, ap, ◌∙◌, arith, append-nil}
use Rattle.std.specs.List.{flat_map, range_with_len}
use Rattle.std.proofs.lemmas.List.{map-append}
use Rattle.std.proofs.lemmas.List.Concat.{flat_map-append}
use Rattle.serde_json.specs.Data.{depth, items_depth}
use Rattle.serde_json.specs.View.{items_of}
use Rattle.serde_json.specs.Written.{has_float, items_have_float}
use Rattle.documents.specs.Generated.{row_of, source_of, report_value, reports_value, file_value, generated_value}

pub range_more : (from count : ℕ) → range_with_len from (count + 1) ≡ range_with_len from count ++ (from + count) ∷ []
range_more from zero = let e : from + zero ≡ from = omega arith in rw e refl
range_more from (suc count) =
    let next : suc count + 1 ≡ suc (count + 1) = omega arith in
    let last : from + 1 + count ≡ from + suc count = omega arith in
    rw next (ap (λ l. from ∷ l) (range_more (from + 1) count ∙ ap (λ n. range_with_len (from + 1) count ++ n ∷ []) last))

pub source_none : source_of 0 ≡ []
unfolding source_of
source_none = refl

pub source_more : (count : ℕ) → source_of (count + 1) ≡ source_of count ++ row_of (count + 1)
unfolding source_of
source_more count =
    let last : 1 + count ≡ count + 1 = omega arith in
    ap (flat_map row_of) (range_more 1 count) ∙ flat_map-append row_of (range_with_len 1 count) ((1 + count) ∷ []) ∙ ap (λ l. flat_map row_of (range_with_len 1 count) ++ l) (append-nil (row_of (1 + count)) ∙ ap row_of last)

pub reports_none : reports_value 0 ≡ []
unfolding reports_value
reports_none = refl

pub reports_more : (count : ℕ) → reports_value (count + 1) ≡ reports_value count ++ report_value (count + 1) ∷ []
unfolding reports_value
reports_more count =
    let last : 1 + count ≡ count + 1 = omega arith in
    ap (map report_value) (range_more 1 count) ∙ map-append report_value (range_with_len 1 count) ((1 + count) ∷ []) ∙ ap (λ n. map report_value (range_with_len 1 count) ++ report_value n ∷ []) last

-- ---- it can be written and read

no_float_reports : (from count : ℕ) → items_have_float (items_of (map report_value (range_with_len from count))) ≡ false
unfolding report_value
no_float_reports from zero = refl
no_float_reports from (suc count) = no_float_reports (from + 1) count

pub no_float : (count : ℕ) → has_float (generated_value count) ≡ false
unfolding generated_value file_value reports_value
no_float count = rw (no_float_reports 1 count) refl

reports_depth : (from count : ℕ) → items_depth (items_of (map report_value (range_with_len from count))) ≤ 4
unfolding report_value
reports_depth from zero = omega arith
reports_depth from (suc count) = omega (arith, reports_depth (from + 1) count)

pub shallow : (count : ℕ) → depth (generated_value count) ≤ 127
unfolding generated_value file_value reports_value
shallow count = omega (arith, reports_depth 1 count)

pub ruleset plain_values = (no_float, shallow)
