-- The row of a number, by its first column and one past its last.
use Rattle.std.proofs.Common.{◌≡◌, ℕ, ◌+◌, ◌-◌, ◌≤◌, ◌==◌, if◌then◌else◌, List, [], ◌∷◌, length, drop, min, Bool, true, false, max, Option, Some, None, ⊎_elim, refl, sym, ap, ap₂, ◌∙◌, subst, arith}
use lib.Utf8.{encode, encodes}
use Rattle.std.specs.Prelude.{IfSome, slice_get, slice_range}
use Rattle.std.specs.Str.{IsUtf8, chars}
use Rattle.std.specs.declared.ops.Range.{Range}
use Rattle.std.proofs.lemmas.Bool.{cases_lt, le-leb}
use Rattle.std.proofs.lemmas.List.{length-append, length-drop, length-take}
use Rattle.std.proofs.lemmas.Str.{IsUtf8-between, encodes-chars, length-encode, length-le-encodes}
use Rattle.oxc_protocol.specs.Source.{Fits}
use Rattle.line_shapes.specs.declared.tables.Unit.TheVariants.{Characters}
use Rattle.line_shapes.specs.declared.tools.Columns.{Columns}
use Rattle.sarif_spans.specs.declared.rows.Row.{Row}
use Rattle.sarif_spans.specs.Rows.{IsRowOf, rows_in}
use Rattle.line_reports.specs.declared.spans.Spot.{Spot}
use Rattle.line_reports.specs.Span.{breaks, end_of, passed, place_in, range_of, row_numbered, span_in, span_of}
use Rattle.line_reports.proofs.RowLemmas.{row_meant, row_past, row_whole}
use Rattle.json_reports.specs.Spans.{row_at}

-- ---- rows stand in their text

found_stands : (text : List ℕ) (number : ℕ) → IsUtf8 text → IfSome (slice_get (rows_in breaks text) number) (IsRowOf text)
found_stands text number utf8 =
    ⊎_elim (λ past. subst (λ row. IfSome row (IsRowOf text)) (row_past text number past) tt)
    (λ within. subst (λ row. IfSome row (IsRowOf text)) (sym (row_meant text number within)) (row_whole text number utf8))
    (cases_lt _ number)

unless : (no : Bool) (text : List ℕ) (found : Option Row) → IfSome found (IsRowOf text) → IfSome (if no then None else found) (IsRowOf text)
unless true text found stands = tt
unless false text found stands = stands

row_stands : (text : List ℕ) (line : Option ℕ) → IsUtf8 text → IfSome (row_numbered (rows_in breaks text) line) (IsRowOf text)
row_stands text None utf8 = tt
row_stands text (Some number) utf8 = unless (number == 0) text (slice_get (rows_in breaks text) (number - 1)) (found_stands text (number - 1) utf8)

-- ---- columns past a row

passed_all : (column at : ℕ) (cs : List ℕ) → at + length cs ≤ column → passed Characters column at cs ≡ length (encodes cs)
unfolding passed
passed_all column at [] fits = refl
passed_all column at (c ∷ cs) fits =
    let next : at + 1 ≤ column = omega (arith, fits) in
    let rest : passed Characters column (at + 1) cs ≡ length (encodes cs) = passed_all column (at + 1) cs (omega (arith, fits)) in
    rw (le-leb (at + 1) column next) (ap₂ (λ a b. a + b) (sym (length-encode c)) rest ∙ sym (length-append (encode c) (encodes cs)))

passed_whole : (column : ℕ) (bytes : List ℕ) → IsUtf8 bytes → length bytes ≤ column → passed Characters column 0 (chars bytes) ≡ length bytes
passed_whole column bytes utf8 fits =
    let same : length (encodes (chars bytes)) ≡ length bytes = ap length (encodes-chars bytes utf8) in
    passed_all column 0 (chars bytes) (omega (arith, length-le-encodes (chars bytes), same, fits)) ∙ same

pub passed_none : (cs : List ℕ) → passed Characters 0 0 cs ≡ 0
unfolding passed
passed_none [] = refl
passed_none (c ∷ cs) = refl

-- ---- the row

abbrev pub whole : Option ℕ → Spot
whole line = record { place = record { line = line; column = Some 1; end_line = None; end_column = Some 4294967295 }; caret = None }

abbrev by_characters : Columns
by_characters = record { unit = Characters; first = 1; with_end = false }

-- the bytes of a row
row_bytes : (text : List ℕ) (row : Row) → IsUtf8 text → IsRowOf text row → Fits text → passed Characters 4294967294 0 (chars (slice_range text row.start row.end)) ≡ row.end - row.start
row_bytes text row utf8 stands short =
    let size : length (slice_range text row.start row.end) ≡ row.end - row.start =
    length-take (row.end - row.start) (drop row.start text) ∙ ap (min (row.end - row.start)) (length-drop row.start text) ∙ omega (arith, stands.ordered, stands.end.0) in
    passed_whole 4294967294 (slice_range text row.start row.end) (IsUtf8-between text row.start row.end utf8 stands.ordered stands.start stands.end) (omega (arith, size, short, stands.end.0)) ∙ size

range_is : (text : List ℕ) (row : Row) → IsUtf8 text → IsRowOf text row → Fits text
    → range_of (place_in Characters 0 text row) (place_in Characters 4294967294 text row) ≡ record { start = row.start; end = row.end }
unfolding place_in
range_is text row utf8 stands short =
    let start : place_in Characters 0 text row ≡ row.start = omega (arith, passed_none (chars (slice_range text row.start row.end))) in
    let end : place_in Characters 4294967294 text row ≡ row.end = omega (arith, row_bytes text row utf8 stands short, stands.ordered) in
    let most : max row.start row.end ≡ row.end = omega (arith, stands.ordered) in
    ap₂ range_of start end ∙ ap (λ last. let it : Range ℕ = record { start = row.start; end = last } in it) most

found_row : (text : List ℕ) (line : Option ℕ) (found : Option Row) → IsUtf8 text → Fits text → row_numbered (rows_in breaks text) line ≡ found → IfSome found (IsRowOf text)
    → span_of by_characters text (whole line) ≡ row_at text line
unfolding span_in end_of
found_row text line None utf8 short is stands = rw is refl
found_row text line (Some row) utf8 short is stands = rw is (ap Some (range_is text row utf8 stands short))

pub row_found : (text : List ℕ) (line : Option ℕ) → IsUtf8 text → Fits text → span_of by_characters text (whole line) ≡ row_at text line
row_found text line utf8 short = found_row text line (row_numbered (rows_in breaks text) line) utf8 short refl (row_stands text line utf8)
