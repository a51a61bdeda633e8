-- The generated value is a document, and none of its reports is refused.
use Rattle.std.proofs.Common.{◌≡◌, ℕ, zero, suc, ◌+◌, ◌-◌, ◌*◌, ◌^◌, ◌<◌, ◌≤◌, ◌%◌, ◌==◌, if◌then◌else◌, true, false, not, List, [], ◌∷◌, ◌++◌, length, map, get_or, Some, None, option_and_then, option_map, codes, decimal, refl, sym, ap, ap₂, ◌∙◌, subst, arith}
use Rattle.std.specs.List.{range_with_len, position, position_or_len}
use Rattle.std.specs.Str.{IsUtf8, is_utf8, chars}
use lib.Utf8.{encode}
use Rattle.std.proofs.lemmas.Bool.{lt-ltb, le-ltb, le-leb}
use Rattle.std.proofs.lemmas.List.{length-append, get_or_append_left, get_or_at}
use Rattle.std.proofs.lemmas.Str.{IsUtf8-append, IsUtf8-from_ascii, IsUtf8-from_is_utf8, is_utf8-from_IsUtf8}
use Rattle.std.proofs.lemmas.Str.Parse.{digit_at}
use Rattle.std.proofs.lemmas.Fmt.{decimal_is_IsNumeral, decimal_nonempty, IsAscii-decimal, length-decimal-le}
use Rattle.serde_json.specs.Data.{Data, depth}
use Rattle.serde_json.specs.Read.{read}
use Rattle.documents.proofs.GeneratedLemmas.{shallow}
use Rattle.serde_json.specs.View.{items_of}
use Rattle.serde_json.proofs.OnLiterals.{serde_json_on_literals}
use Rattle.source_location.specs.Breaks.{breaks_of}
use Rattle.source_location.specs.declared.newlines.LineEnding.TheVariants.{Lf}
use Rattle.source_location.proofs.CutLemmas.{HasNone, breaks_of-first, breaks_of-none}
use Rattle.documents.specs.Kinds.{all_of}
use Rattle.documents.specs.declared.document.Version.TheVariants.{One}
use Rattle.documents.specs.Document.{document_of, file, form_of, label_by_rows, report}
use Rattle.documents.specs.Generated.{front_of, row_of, source_of, report_value, reports_value, file_value, generated_value, report_made, document_made}
use Rattle.render_files.specs.Refusal.{first_at, refusal_in, refusal_of}
use Rattle.documents.proofs.KindLemmas.{document_read}
use Rattle.documents.proofs.PlacesLemmas.{IsRow, AreRows, rows, HasPlaces, places_of}

-- ---- the form

report_form : (n : ℕ) → 0 < n → n < 2 ^ 32 → report One (report_value n) ≡ Some (report_made n)
unfolding report label_by_rows report_value serde_json_on_literals
report_form n some small = rw (le-leb 1 n (omega (arith, some)), le-leb n (2 ^ 32 - 1) (omega (arith, small))) refl

reports_form : (from count : ℕ) → 0 < from → from + count ≤ 2 ^ 32 → all_of (report One) (items_of (map report_value (range_with_len from count))) ≡ Some (map report_made (range_with_len from count))
reports_form from zero some small = refl
reports_form from (suc count) some small =
    ap₂ (λ first others. option_and_then (λ a. option_map (λ rest. a ∷ rest) others) first) (report_form from some (omega arith)) (reports_form (from + 1) count (omega arith) (omega arith))

file_form : (count : ℕ) → length (source_of count) < 4294967295 → file (file_value count) ≡ Some (record { name = codes "gen"; text = source_of count })
unfolding file file_value serde_json_on_literals
file_form count small = rw (lt-ltb (length (source_of count)) (2 ^ 32 - 1) small) refl

value_form : (count : ℕ) → length (source_of count) < 4294967295 → count < 2 ^ 32 → form_of (generated_value count) ≡ Some (document_made count)
unfolding form_of generated_value reports_value document_made serde_json_on_literals
value_form count small few = rw (file_form count small) (rw (reports_form 1 count (omega arith) (omega arith)) refl)

-- ---- the rows

front_utf8 : (n : ℕ) → IsUtf8 (front_of n)
unfolding front_of is_utf8 chars encode
front_utf8 n =
    elim (n % 4 == 0) as (λ said. IsUtf8 (if said then 0x09 ∷ 0xE6 ∷ 0x97 ∷ 0xA5 ∷ [] else codes "r")) [ true ↦ IsUtf8-from_is_utf8 (0x09 ∷ 0xE6 ∷ 0x97 ∷ 0xA5 ∷ []) refl | false ↦ IsUtf8-from_is_utf8 (codes "r") refl ]

tab_none : HasNone (0x09 ∷ 0xE6 ∷ 0x97 ∷ 0xA5 ∷ [])
tab_none zero h = ((λ e. omega arith), (λ e. omega arith))
tab_none (suc zero) h = ((λ e. omega arith), (λ e. omega arith))
tab_none (suc (suc zero)) h = ((λ e. omega arith), (λ e. omega arith))
tab_none (suc (suc (suc zero))) h = ((λ e. omega arith), (λ e. omega arith))
tab_none (suc (suc (suc (suc i)))) h = absurd (omega arith)

letter_none : HasNone (codes "r")
letter_none zero h = ((λ e. omega arith), (λ e. omega arith))
letter_none (suc i) h = absurd (omega arith)

front_none : (n : ℕ) → HasNone (front_of n)
unfolding front_of
front_none n = elim (n % 4 == 0) as (λ said. HasNone (if said then 0x09 ∷ 0xE6 ∷ 0x97 ∷ 0xA5 ∷ [] else codes "r")) [ true ↦ tab_none | false ↦ letter_none ]

front_size : (n : ℕ) → (0 < length (front_of n)) × (length (front_of n) ≤ 4) × (get_or (front_of n) 0 0 < 128)
unfolding front_of
front_size n =
    elim (n % 4 == 0) as (λ said. (0 < length (if said then 0x09 ∷ 0xE6 ∷ 0x97 ∷ 0xA5 ∷ [] else codes "r")) × (length (if said then 0x09 ∷ 0xE6 ∷ 0x97 ∷ 0xA5 ∷ [] else codes "r") ≤ 4) × (get_or (if said then 0x09 ∷ 0xE6 ∷ 0x97 ∷ 0xA5 ∷ [] else codes "r") 0 0 < 128))
    [ true ↦ (omega arith, omega arith, omega arith) | false ↦ (omega arith, omega arith, omega arith) ]

digits_none : (n : ℕ) → n < 2 ^ 64 → HasNone (decimal n)
digits_none n small i h = let d = digit_at (decimal n) i (decimal_is_IsNumeral n small).0.1 h in ((λ e. omega (arith, d, e)), (λ e. omega (arith, d, e)))

both_none : (xs ys : List ℕ) → HasNone xs → HasNone ys → HasNone (xs ++ ys)
both_none [] ys left right i h = right i h
both_none (x ∷ xs) ys left right zero h = left 0 (omega arith)
both_none (x ∷ xs) ys left right (suc i) h = both_none xs ys (λ k l. left (suc k) (omega arith)) right i (omega arith)

line_breaks : (line : List ℕ) → HasNone line → breaks_of (line ++ 0x0A ∷ []) ≡ record { start = length line; end = length line } ∷ []
line_breaks line none =
    let empty : breaks_of [] ≡ [] = breaks_of-none [] (λ i h. absurd (omega arith)) in
    let end : length line + 1 - 1 ≡ length line = omega arith in
    breaks_of-first line [] Lf none (λ cr lf. omega (arith, cr)) ∙ rw (empty, end) refl

is_row : (n : ℕ) → n < 2 ^ 64 → IsRow (row_of n)
unfolding row_of
is_row n small =
    let line = front_of n ++ decimal n in
    let size = front_size n in
    let some = decimal_nonempty n small in
    let long : length (line ++ 0x0A ∷ []) ≡ length (front_of n) + length (decimal n) + 1 = omega (arith, length-append line (0x0A ∷ []), length-append (front_of n) (decimal n)) in
    let end : length (line ++ 0x0A ∷ []) - 1 ≡ length line = omega (arith, length-append line (0x0A ∷ [])) in
    record {
      some = omega (arith, long, size.0, some);
      utf8 = IsUtf8-append line (0x0A ∷ []) (IsUtf8-append (front_of n) (decimal n) (front_utf8 n) (IsUtf8-from_ascii (decimal n) (IsAscii-decimal n small))) (IsUtf8-from_ascii (0x0A ∷ []) line_feed);
      ascii = omega (arith, size.2, get_or_append_left line (0x0A ∷ []) 0 0 (omega (arith, length-append (front_of n) (decimal n), size.0)), get_or_append_left (front_of n) (decimal n) 0 0 size.0);
      last = ap (λ k. get_or (line ++ 0x0A ∷ []) k 0) end ∙ get_or_at line 0x0A [] 0 (length line) refl;
      break = rw end (line_breaks line (both_none (front_of n) (decimal n) (front_none n) (digits_none n small)));
    }
  where
    line_feed : (i : ℕ) → get_or (0x0A ∷ []) i 0 < 128
    line_feed zero = omega arith
    line_feed (suc i) = omega arith

row_short : (n : ℕ) → n < 2 ^ 64 → length (row_of n) ≤ 25
unfolding row_of
row_short n small =
    omega (arith, length-append (front_of n ++ decimal n) (0x0A ∷ []), length-append (front_of n) (decimal n), front_size n, length-decimal-le 20 n (omega arith) (omega arith) small)

rows_short : (from count : ℕ) → from + count ≤ 2 ^ 64 → length (rows row_of from count) ≤ count * 25
rows_short from zero small = omega arith
rows_short from (suc count) small = omega (arith, length-append (row_of from) (rows row_of (from + 1) count), row_short from (omega arith), rows_short (from + 1) count (omega arith))

source_short : (count : ℕ) → count ≤ 5000 → length (source_of count) ≤ count * 25
unfolding source_of
source_short count few = rows_short 1 count (omega arith)

pub form_is : (count : ℕ) → count ≤ 5000 → form_of (generated_value count) ≡ Some (document_made count)
form_is count few = value_form count (omega (arith, source_short count few)) (omega arith)

-- ---- no report is refused

are_rows : (count : ℕ) → count ≤ 5000 → AreRows row_of 1 count
are_rows count few = λ k low high. is_row k (omega arith)

places : (count j : ℕ) → count ≤ 5000 → 0 < j → j ≤ count → HasPlaces (source_of count) j
unfolding source_of
places count j few some within = places_of row_of count j (are_rows count few) some within

accepted_one : (count at j : ℕ) → count ≤ 5000 → 0 < j → j ≤ count → refusal_in (document_made count).files at (report_made j) ≡ None
unfolding document_made refusal_in
accepted_one count at j few some within =
    let p = places count j few some within in
    rw (p.first, p.second) (rw (le-ltb (p.offset + 1) p.offset (omega arith)) refl)

accepted_all : (count at from n : ℕ) → count ≤ 5000 → 0 < from → from + n ≤ count + 1 → first_at (refusal_in (document_made count).files) at (map report_made (range_with_len from n)) ≡ None
accepted_all count at from zero few some within = refl
accepted_all count at from (suc n) few some within =
    rw (accepted_one count at from few some (omega arith)) (accepted_all count (at + 1) (from + 1) n few (omega arith) (omega arith))

pub accepted : (count : ℕ) → count ≤ 5000 → refusal_of (document_made count).files (document_made count).reports ≡ None
unfolding refusal_of document_made
accepted count few = accepted_all count 0 1 count few (omega arith) (omega arith)

-- a text that is read as the generated value is the generated document
pub document_is : (count : ℕ) (bytes : List ℕ) (value : Data) → count ≤ 5000 → IsUtf8 bytes → value ≡ generated_value count → (depth value ≤ 127 → read bytes ≡ Some value) → document_of bytes ≡ Some (document_made count)
document_is count bytes value few utf8 is reads =
    let low : depth value ≤ 127 = subst (λ v. depth v ≤ 127) (sym is) (shallow count) in
    document_read bytes value utf8 (reads low) ∙ ap form_of is ∙ form_is count few
