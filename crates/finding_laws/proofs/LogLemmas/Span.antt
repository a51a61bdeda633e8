-- Regions that are written are read as the bytes that they were.
use Rattle.std.proofs.Common.{◌≡◌, ℕ, zero, suc, ◌+◌, ◌-◌, ◌<◌, ◌≤◌, ◌==◌, ◌&&◌, ◌⊎◌, List, [], ◌∷◌, ◌++◌, length, get_or, take, drop, slice_range, min, max, nat_lt, Bool, true, false, cond, Option, Some, None, option_map, option_and_then, ⊎_elim, inl, inr, refl, sym, ap, ap₂, ◌∙◌, subst, arith}
use lib.Utf8.{encode, encodes}
use Rattle.std.specs.Prelude.{slice_get, unwrap_or}
use Rattle.std.specs.declared.ops.Range.{Range}
use Rattle.std.specs.Char.{len_utf8}
use Rattle.std.specs.Str.{chars, IsUtf8, IsCharBoundary}
use Rattle.std.proofs.Math.Seq.{take-add}
use Rattle.std.proofs.lemmas.Bool.{and_parts, cases_eq, cases_lt, cases_Bool, eqb-true, false≢true, le-leb, ltb-true, ne_eqb}
use Rattle.std.proofs.lemmas.Bool.Decides.{nat_tests}
use Rattle.std.proofs.lemmas.List.{drop-drop, get_or_past, length-append, length-drop, length-take}
use Rattle.std.proofs.lemmas.Str.{chars-append, encodes-chars, length-encode, IsUtf8-between}
use Rattle.oxc_windows.specs.declared.breaks.LineBreak.{LineBreak}
use Rattle.oxc_windows.specs.Breaks.{breaks_of}
use Rattle.oxc_windows.specs.Rows.{is_second_byte, row_of, row_start}
use Rattle.oxc_windows.proofs.ByteRowsLemmas.{rows_begin}
use Rattle.oxc_windows.proofs.BreaksLemmas.{breaks_found, breaks_valid}
use Rattle.oxc_windows.proofs.RowsLemmas.{ends_from_row, row_le, row_start_le, row_start_le_settled, second_at, second_past}
use Rattle.source_location.specs.declared.SourceLocation.{SourceLocation}
use Rattle.source_location.specs.Characters.{char_count}
use Rattle.source_location.specs.Locations.{begins_with_mark, counted_from, location_of}
use Rattle.source_location.proofs.CharactersLemmas.{char_count-between, char_count-chars, char_count-le, char_count-none}
use Rattle.source_location.proofs.LocationsLemmas.{counted_from_boundary, counted_from_first, counted_from_later, counted_from_mark, mark_bytes, mark_within}
use Rattle.sarif_log.specs.declared.log.ColumnKind.TheVariants.{Characters}
use Rattle.sarif_spans.specs.Rows.{row_at, rows_in}
use Rattle.sarif_spans.specs.Span.{by_rows, fitting, in_row, place_of, positive, range_of, span_of, where_given}
use Rattle.finding_laws.specs.Logs.Meant.{breaks_meant, region_meant}
use Rattle.finding_laws.specs.Logs.Back.{ReadsBack, settled_end}
use Rattle.line_reports.specs.Rows.{past_end, row_end}
use Rattle.line_reports.proofs.RowLemmas.{break_byte, ends_whole, row_meant}

-- ---- characters that fit

fits_none : (cs : List ℕ) → fitting Characters 0 cs ≡ 0
unfolding fitting
fits_none [] = refl
fits_none (c ∷ cs) = refl

one_more : (left c : ℕ) (cs : List ℕ) → fitting Characters (suc left) (c ∷ cs) ≡ len_utf8 c + fitting Characters left cs
unfolding fitting
one_more left c cs =
    let same : suc left - 1 ≡ left = omega arith in
    ap (λ b. cond b (len_utf8 c + fitting Characters (suc left - 1) cs) 0) (le-leb 1 (suc left) (omega arith))
    ∙ ap (λ n. len_utf8 c + fitting Characters n cs) same

-- of as many characters as columns
fits_front : (xs ys : List ℕ) → fitting Characters (length xs) (xs ++ ys) ≡ length (encodes xs)
fits_front [] ys = fits_none ys
fits_front (c ∷ xs) ys = omega (arith, one_more (length xs) c (xs ++ ys), fits_front xs ys, length-append (encode c) (encodes xs), length-encode c)

-- of fewer characters than columns
fits_all : (cs : List ℕ) (left : ℕ) → length cs ≤ left → fitting Characters left cs ≡ length (encodes cs)
unfolding fitting
fits_all [] left few = refl
fits_all (c ∷ cs) zero few = absurd (omega (arith, few))
fits_all (c ∷ cs) (suc left) few = omega (arith, one_more left c cs, fits_all cs left (omega (arith, few)), length-append (encode c) (encodes cs), length-encode c)

-- ---- rows and marks

low_end : (text : List ℕ) (r : ℕ) → r < length (breaks_of text) → get_or text (row_end text r) 0 < 128
low_end text r inside =
    let b = get_or (breaks_of text) r (past_end text) in
    break_byte text b.start b (breaks_found text r (past_end text) inside).0

-- what is ASCII stands behind a mark
past_mark : (text : List ℕ) → begins_with_mark text ≡ true → (at : ℕ) → get_or text at 0 < 128 → 3 ≤ at
past_mark text mark zero low = absurd (omega (arith, low, (mark_bytes text mark).0))
past_mark text mark (suc zero) low = absurd (omega (arith, low, (mark_bytes text mark).1))
past_mark text mark (suc (suc zero)) low = absurd (omega (arith, low, (mark_bytes text mark).2))
past_mark text mark (suc (suc (suc at))) low = omega arith

-- and so does each place in the text but its beginning
behind_mark : (text : List ℕ) (o : ℕ) → begins_with_mark text ≡ true → IsCharBoundary text o → 0 < o → 3 ≤ o
behind_mark text zero mark cut some = absurd (omega (arith, some))
behind_mark text (suc zero) mark cut some =
    absurd (omega (arith, cut.1 (omega (arith, (mark_within text mark).0)) (omega (arith, (mark_bytes text mark).1)), (mark_bytes text mark).1))
behind_mark text (suc (suc zero)) mark cut some =
    absurd (omega (arith, cut.1 (omega (arith, (mark_within text mark).0)) (omega (arith, (mark_bytes text mark).2)), (mark_bytes text mark).2))
behind_mark text (suc (suc (suc o))) mark cut some = omega arith

not_first : (o : ℕ) (mark : Bool) → mark ≡ true → (o == 0) && mark ≡ false → 0 < o
not_first zero mark is other = absurd (false≢true (sym other ∙ is))
not_first (suc o) mark is other = omega arith

-- ---- a row of an offset

abbrev row_in : List ℕ → ℕ → ℕ
row_in text o = row_of (breaks_of text) o

-- its columns are counted from no later than its end
starts_before : (text : List ℕ) (o : ℕ) → IsUtf8 text → counted_from text (row_in text o) ≤ row_end text (row_in text o)
starts_before text o utf8 =
    let r = row_in text o in
    ⊎_elim (λ inside. within inside (cases_Bool (begins_with_mark text)))
    (λ none. omega (arith, (counted_from_boundary text r utf8).0, ap (λ (it : LineBreak). it.start) (get_or_past (breaks_of text) r (past_end text) none)))
    (cases_lt r (length (breaks_of text)))
  where
    plain : row_in text o < length (breaks_of text) → row_start (length text) (breaks_of text) (row_in text o) ≤ row_end text (row_in text o)
    plain inside = row_start_le_settled (length text) (breaks_of text) o (row_in text o) (past_end text) (breaks_valid text).ordered refl inside

    within : row_in text o < length (breaks_of text) → (begins_with_mark text ≡ true) ⊎ (begins_with_mark text ≡ false) → counted_from text (row_in text o) ≤ row_end text (row_in text o)
    within inside (inl mark) =
        ⊎_elim (λ first. omega (arith, counted_from_mark text (row_in text o) first mark, past_mark text mark (row_end text (row_in text o)) (low_end text (row_in text o) inside)))
        (λ later. omega (arith, counted_from_later text (row_in text o) (omega (arith, later)), plain inside))
        (cases_eq (row_in text o) 0)
    within inside (inr none) =
        ⊎_elim (λ first. omega (arith, counted_from_first text (row_in text o) first none))
        (λ later. omega (arith, counted_from_later text (row_in text o) (omega (arith, later)), plain inside))
        (cases_eq (row_in text o) 0)

-- and no later than the offset, but at the beginning of a mark
counted_before : (text : List ℕ) (o : ℕ) → IsCharBoundary text o → (o == 0) && begins_with_mark text ≡ false → counted_from text (row_in text o) ≤ o
counted_before text o cut other = at (cases_Bool (begins_with_mark text))
  where
    later : 0 < row_in text o → counted_from text (row_in text o) ≤ o
    later some = omega (arith, counted_from_later text (row_in text o) some, row_start_le (length text) (breaks_of text) o (row_in text o) (breaks_valid text).ordered refl)

    at : (begins_with_mark text ≡ true) ⊎ (begins_with_mark text ≡ false) → counted_from text (row_in text o) ≤ o
    at (inl mark) =
        ⊎_elim (λ first. omega (arith, counted_from_mark text (row_in text o) first mark, behind_mark text o mark cut (not_first o (begins_with_mark text) mark other)))
        (λ some. later (omega (arith, some)))
        (cases_eq (row_in text o) 0)
    at (inr none) =
        ⊎_elim (λ first. omega (arith, counted_from_first text (row_in text o) first none))
        (λ some. later (omega (arith, some)))
        (cases_eq (row_in text o) 0)

-- inside a CRLF the row ends one byte before, and the break is there
record IsInPair (text : List ℕ) (o : ℕ) : Type 0 where
  inside : row_in text o < length (breaks_of text)
  before : row_end text (row_in text o) + 1 ≡ o

in_pair : (text : List ℕ) (o : ℕ) → is_second_byte (breaks_of text) o ≡ true → IsInPair text o
in_pair text o second =
    let list = breaks_of text in
    let ok = (breaks_valid text).ordered in
    let r = row_in text o in
    let b = get_or list r (past_end text) in
    ⊎_elim
    (λ inside.
    ⊎_elim
    (λ said.
    let parts = and_parts (b.end == o) (nat_lt b.start o) said in
    let ends : b.end ≡ o = eqb-true b.end o parts.0 in
    let less : b.start < o = ltb-true b.start o parts.1 in
    record { inside = inside; before = omega (arith, ends, less, (ok.shape r (past_end text) inside).1) })
    (λ other. absurd (false≢true (sym (second_at list o (past_end text) ok inside false other) ∙ second)))
    (cases_Bool ((b.end == o) && nat_lt b.start o)))
    (λ none. absurd (false≢true (sym (second_past list o ok none) ∙ second)))
    (cases_lt r (length list))

-- elsewhere the row doesn't end before the offset
before_end : (text : List ℕ) (o : ℕ) → o ≤ length text → is_second_byte (breaks_of text) o ≡ false → o ≤ row_end text (row_in text o)
before_end text o within other =
    let list = breaks_of text in
    let ok = (breaks_valid text).ordered in
    let r = row_in text o in
    let b = get_or list r (past_end text) in
    ⊎_elim
    (λ inside.
    ⊎_elim
    (λ less.
    let ends : b.end ≡ o = omega (arith, less, (ok.shape r (past_end text) inside).1, ends_from_row list o ok r (past_end text) (omega arith) inside) in
    let said : (b.end == o) && nat_lt b.start o ≡ true = grind (arith, nat_tests, ends, less) in
    absurd (false≢true (sym other ∙ second_at list o (past_end text) ok inside true said)))
    (λ fine. fine)
    (cases_lt b.start o))
    (λ none. omega (arith, within, ap (λ (it : LineBreak). it.start) (get_or_past list r (past_end text) none)))
    (cases_lt r (length list))

-- ---- columns

length_between : (text : List ℕ) (s p : ℕ) → s ≤ p → p ≤ length text → length (slice_range text s p) ≡ p - s
length_between text s p low high = omega (arith, low, high, length-take (p - s) (drop s text), length-drop s text)

parted : (text : List ℕ) (s p e : ℕ) → s ≤ p → p ≤ e → slice_range text s e ≡ slice_range text s p ++ slice_range text p e
parted text s p e low high =
    let whole : e - s ≡ (p - s) + (e - p) = omega (arith, low, high) in
    let place : s + (p - s) ≡ p = omega (arith, low) in
    ap (λ n. take n (drop s text)) whole
    ∙ take-add (p - s) (e - p) (drop s text)
    ∙ ap (λ its. slice_range text s p ++ take (e - p) its) (drop-drop (p - s) s text ∙ ap (λ n. drop n text) place)

-- as many columns as there are characters up to a place lead to it
column_at : (text : List ℕ) (s p e : ℕ) → IsUtf8 text → IsCharBoundary text s → IsCharBoundary text p → s ≤ p → p ≤ e
    → s + fitting Characters (char_count (slice_range text s p)) (chars (slice_range text s e)) ≡ p
column_at text s p e utf8 from to low high =
    let front = slice_range text s p in
    let text_front : IsUtf8 front = IsUtf8-between text s p utf8 low from to in
    let spelt : chars (slice_range text s e) ≡ chars front ++ chars (slice_range text p e) = ap chars (parted text s p e low high) ∙ chars-append front (slice_range text p e) text_front in
    let fits : fitting Characters (char_count front) (chars (slice_range text s e)) ≡ length front =
    ap₂ (fitting Characters) (char_count-chars front text_front) spelt ∙ fits_front (chars front) (chars (slice_range text p e)) ∙ ap length (encodes-chars front text_front) in
    omega (arith, fits, length_between text s p low to.0, low)

-- more columns than a row has lead to its end
column_past : (text : List ℕ) (s e count : ℕ) → IsUtf8 text → IsCharBoundary text s → IsCharBoundary text e → s ≤ e → char_count (slice_range text s e) ≤ count
    → s + fitting Characters count (chars (slice_range text s e)) ≡ e
column_past text s e count utf8 from to low few =
    let row = slice_range text s e in
    let text_row : IsUtf8 row = IsUtf8-between text s e utf8 low from to in
    let fits : fitting Characters count (chars row) ≡ length row =
    fits_all (chars row) count (omega (arith, few, char_count-chars row text_row)) ∙ ap length (encodes-chars row text_row) in
    omega (arith, fits, length_between text s e low to.0, low)

in_row_at : (text : List ℕ) (s e count : ℕ) → s ≤ e → in_row Characters text (row_at s e) (Some (count + 1)) ≡ s + fitting Characters count (chars (slice_range text s e))
unfolding in_row
in_row_at text s e count low =
    let least : min s e ≡ s = omega (arith, low) in
    let same : count + 1 - 1 ≡ count = omega arith in
    ap₂ (λ start left. start + fitting Characters left (chars (slice_range text start e))) least same

-- ---- places

settle_mark : (text : List ℕ) (o : ℕ) → (o == 0) && begins_with_mark text ≡ true → settled_end text o ≡ 3
unfolding settled_end
settle_mark text o is = ap (λ b. cond b 3 (cond (is_second_byte (breaks_of text) o) (o - 1) o)) is

settle_by : (text : List ℕ) (o : ℕ) (second : Bool) → (o == 0) && begins_with_mark text ≡ false → is_second_byte (breaks_of text) o ≡ second → settled_end text o ≡ cond second (o - 1) o
unfolding settled_end
settle_by text o second is said = ap₂ (λ b other. cond b 3 (cond other (o - 1) o)) is said

abbrev column_in : List ℕ → ℕ → ℕ
column_in text o = char_count (slice_range text (counted_from text (row_in text o)) o)

abbrev place_read : List ℕ → ℕ → ℕ
place_read text o =
    counted_from text (row_in text o)
    + fitting Characters (column_in text o) (chars (slice_range text (counted_from text (row_in text o)) (row_end text (row_in text o))))

-- the place that is read is the one that is meant
place_settled : (text : List ℕ) (o : ℕ) → IsUtf8 text → IsCharBoundary text o → place_read text o ≡ settled_end text o
place_settled text o utf8 cut =
    ⊎_elim first (λ other. ⊎_elim (pair other) (plain other) (cases_Bool (is_second_byte (breaks_of text) o)))
    (cases_Bool ((o == 0) && begins_with_mark text))
  where
    first : (o == 0) && begins_with_mark text ≡ true → place_read text o ≡ settled_end text o
    first is =
        let parts = and_parts (o == 0) (begins_with_mark text) is in
        let zero_is : o ≡ 0 = eqb-true o 0 parts.0 in
        let row : row_in text o ≡ 0 = ap (row_in text) zero_is ∙ rows_begin text in
        let s = counted_from text (row_in text o) in
        let none : column_in text o ≡ 0 = char_count-none text s o (omega (arith, zero_is)) in
        let fits : fitting Characters (column_in text o) (chars (slice_range text s (row_end text (row_in text o)))) ≡ 0 =
        ap (λ n. fitting Characters n (chars (slice_range text s (row_end text (row_in text o))))) none ∙ fits_none (chars (slice_range text s (row_end text (row_in text o)))) in
        omega (arith, fits, counted_from_mark text (row_in text o) row parts.1, settle_mark text o is)

    plain : (o == 0) && begins_with_mark text ≡ false → is_second_byte (breaks_of text) o ≡ false → place_read text o ≡ settled_end text o
    plain other none =
        column_at text (counted_from text (row_in text o)) o (row_end text (row_in text o)) utf8 (counted_from_boundary text (row_in text o) utf8) cut
        (counted_before text o cut other) (before_end text o cut.0 none)
        ∙ sym (settle_by text o false other none)

    pair : (o == 0) && begins_with_mark text ≡ false → is_second_byte (breaks_of text) o ≡ true → place_read text o ≡ settled_end text o
    pair other second =
        let is = in_pair text o second in
        let s = counted_from text (row_in text o) in
        let e = row_end text (row_in text o) in
        let low : s ≤ e = starts_before text o utf8 in
        let few : char_count (slice_range text s e) ≤ column_in text o =
        omega (arith, low, is.before, char_count-between text s e low, char_count-between text s o (omega (arith, low, is.before)), char_count-le text e o (omega (arith, is.before))) in
        omega (arith, column_past text s e (column_in text o) utf8 (counted_from_boundary text (row_in text o) utf8) (ends_whole text (row_in text o)) low few, is.before, settle_by text o true other second)

abbrev place_back : List ℕ → SourceLocation → Option ℕ
place_back text at = place_of Characters text (rows_in breaks_meant text) at.row (Some at.column)

-- a location of a boundary is read as that boundary, settled
pub place_again : (text : List ℕ) (o : ℕ) → IsUtf8 text → IsCharBoundary text o → place_back text (location_of text o) ≡ Some (settled_end text o)
unfolding place_of location_of
place_again text o utf8 cut =
    let r = row_in text o in
    let same : r + 1 - 1 ≡ r = omega arith in
    let column = column_in text o + 1 in
    ap (λ n. option_map (λ row. in_row Characters text row (Some column)) (slice_get (rows_in breaks_meant text) n)) same
    ∙ ap (option_map (λ row. in_row Characters text row (Some column))) (row_meant text r (row_le (breaks_of text) o))
    ∙ ap Some (in_row_at text (counted_from text r) (row_end text r) (column_in text o) (starts_before text o utf8) ∙ place_settled text o utf8 cut)

-- ---- regions

settled_near : (text : List ℕ) (o : ℕ) → (o == 0) && begins_with_mark text ≡ false → (o ≤ settled_end text o + 1) × (settled_end text o ≤ o)
settled_near text o other = near (is_second_byte (breaks_of text) o) refl
  where
    near : (second : Bool) → is_second_byte (breaks_of text) o ≡ second → (o ≤ settled_end text o + 1) × (settled_end text o ≤ o)
    near true is = (omega (arith, settle_by text o true other is), omega (arith, settle_by text o true other is))
    near false is = (omega (arith, settle_by text o false other is), omega (arith, settle_by text o false other is))

-- behind a mark
settled_past : (text : List ℕ) (o : ℕ) → begins_with_mark text ≡ true → IsCharBoundary text o → 0 < o → (o == 0) && begins_with_mark text ≡ false → 3 ≤ settled_end text o
settled_past text o mark cut some other =
    ⊎_elim
    (λ second.
    let is = in_pair text o second in
    omega (arith, past_mark text mark (row_end text (row_in text o)) (low_end text (row_in text o) is.inside), is.before, settle_by text o true other second))
    (λ none. omega (arith, behind_mark text o mark cut some, settle_by text o false other none))
    (cases_Bool (is_second_byte (breaks_of text) o))

-- a later place isn't settled before an earlier one
pub settled_grows : (text : List ℕ) (a b : ℕ) → IsCharBoundary text b → a ≤ b → settled_end text a ≤ settled_end text b
settled_grows text a b cut low =
    ⊎_elim (λ same. subst (λ n. settled_end text a ≤ settled_end text n) same (omega arith))
    (λ other. less (omega (arith, other, low)) (cases_Bool ((a == 0) && begins_with_mark text)) (cases_Bool ((b == 0) && begins_with_mark text)))
    (cases_eq a b)
  where
    less : a < b → ((a == 0) && begins_with_mark text ≡ true) ⊎ ((a == 0) && begins_with_mark text ≡ false)
        → ((b == 0) && begins_with_mark text ≡ true) ⊎ ((b == 0) && begins_with_mark text ≡ false) → settled_end text a ≤ settled_end text b
    less more first (inl last) = absurd (omega (arith, more, eqb-true b 0 (and_parts (b == 0) (begins_with_mark text) last).0))
    less more (inl first) (inr last) =
        let mark = (and_parts (a == 0) (begins_with_mark text) first).1 in
        omega (arith, settle_mark text a first, settled_past text b mark cut (omega (arith, more)) last)
    less more (inr first) (inr last) = omega (arith, more, (settled_near text a first).1, (settled_near text b last).0)

some_positive : (n : ℕ) → 0 < n → positive (Some n) ≡ Some n
some_positive n some = ap (λ b. cond b None (Some n)) (ne_eqb n 0 (λ same. omega (arith, same, some)))

record IsCounted (at : SourceLocation) : Type 0 where
  row : 0 < at.row
  column : 0 < at.column

counted : (text : List ℕ) (o : ℕ) → IsCounted (location_of text o)
unfolding location_of
counted text o = record { row = omega arith; column = omega arith }

abbrev between : Option ℕ → Option ℕ → Option (Range ℕ)
between start end = option_and_then (λ s. option_map (λ e. range_of s (max s e)) end) start

-- a region whose places are read
region_read : (text : List ℕ) (a b : SourceLocation) (p q : ℕ) → IsCounted a → IsCounted b → place_back text a ≡ Some p → place_back text b ≡ Some q → p ≤ q
    → span_of Characters text (rows_in breaks_meant text) (region_meant a b) ≡ Some (range_of p q)
unfolding span_of by_rows
region_read text a b p q from to start end low =
    let most : max p q ≡ q = omega (arith, low) in
    let rows = rows_in breaks_meant text in
    let region = region_meant a b in
    ap (λ given. where_given given (λ line. by_rows Characters text rows line region) None) (some_positive a.row from.row)
    ∙ ap₂ between (ap (λ column. place_of Characters text rows a.row (Some (unwrap_or column 1))) (some_positive a.column from.column) ∙ start)
    (ap₂ (λ line column. place_of Characters text rows (unwrap_or line a.row) column) (some_positive b.row to.row) (some_positive b.column to.column) ∙ end)
    ∙ ap (λ e. Some (range_of p e)) most

-- from one boundary to another
pub reads_back : (text : List ℕ) (a b : ℕ) → IsUtf8 text → IsCharBoundary text a → IsCharBoundary text b → a ≤ b → ReadsBack text a b
reads_back text a b utf8 from to low =
    region_read text (location_of text a) (location_of text b) (settled_end text a) (settled_end text b) (counted text a) (counted text b)
    (place_again text a utf8 from) (place_again text b utf8 to) (settled_grows text a b to low)
