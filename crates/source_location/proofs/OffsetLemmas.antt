-- From a location back to an offset.
use Rattle.std.proofs.Common.{◌≡◌, ℕ, ◌+◌, ◌-◌, ◌≤◌, ◌<◌, ◌==◌, ◌&&◌, Bool, true, false, cond, List, length, take, drop, get_or, refl, sym, ap, subst, ◌∙◌, arith, slice_range, Option, Some, None, zero, suc, ⊎_elim}
use Rattle.std.specs.Str.{IsUtf8, IsCharBoundary}
use Rattle.std.proofs.lemmas.Bool.{cases_lt, cases_eq, and_parts, eqb-true, false≢true}
use Rattle.std.proofs.lemmas.List.{length-map, length-take, length-drop, get_or-take, get_or-drop, take-take}
use Rattle.source_location.specs.Breaks.{LineBreak, breaks_of}
use Rattle.source_location.specs.Rows.{row_of, row_start}
use Rattle.source_location.proofs.BreaksLemmas.{breaks_valid, break_ends_ascii}
use Rattle.source_location.proofs.RowsLemmas.{row_start_le, row_le, ends_before_row, row_start_first, row_start-le, row_start-le-next, le_next_start, row_of-between, row_of-start}
use Rattle.source_location.specs.declared.SourceLocation.{SourceLocation}
use Rattle.source_location.specs.Index.{IndexView, index_of}
use Rattle.source_location.proofs.IndexLemmas.{starts_of}
use Rattle.source_location.specs.Characters.{char_count}
use Rattle.source_location.specs.Locations.{begins_with_mark, counted_from, location_of, IsOffsetAt}
use Rattle.source_location.proofs.CharactersLemmas.{char_count-between, char_count-le, char_count-lt, char_count-none}
use Rattle.source_location.proofs.LocationsLemmas.{mark_within, mark_boundary, mark_bytes, counted_from_later, counted_from_mark, counted_from_first, counted_from_boundary, row_start_boundary}
use Rattle.oxc_windows.proofs.ByteRowsLemmas.{rows_begin as row_of_none}

pub row_at : (text : List ℕ) (o : ℕ) (place : SourceLocation) → location_of text o ≡ place → row_of (breaks_of text) o + 1 ≡ place.row
unfolding location_of
row_at text o place e = ap (λ l. l.row) e

column_at : (text : List ℕ) (o : ℕ) (place : SourceLocation) → location_of text o ≡ place → char_count (slice_range text (counted_from text (row_of (breaks_of text) o)) o) + 1 ≡ place.column
unfolding location_of
column_at text o place e = ap (λ l. l.column) e

pub row_known : (text : List ℕ) (o r : ℕ) (place : SourceLocation) → location_of text o ≡ place → r + 1 ≡ place.row → row_of (breaks_of text) o ≡ r
row_known text o r place e at = omega (arith, row_at text o place e, at)

pub column_known : (text : List ℕ) (o r n : ℕ) (place : SourceLocation) → location_of text o ≡ place → r + 1 ≡ place.row → n + 1 ≡ place.column → char_count (slice_range text (counted_from text r) o) ≡ n
column_known text o r n place e at col =
    let here = subst (λ k. char_count (slice_range text (counted_from text k) o) + 1 ≡ place.column) (row_known text o r place e at) (column_at text o place e) in
    omega (arith, here, col)

pub location_is : (text : List ℕ) (o r n : ℕ) (place : SourceLocation) → row_of (breaks_of text) o ≡ r → r + 1 ≡ place.row → char_count (slice_range text (counted_from text r) o) ≡ n → n + 1 ≡ place.column → location_of text o ≡ place
unfolding location_of
location_is text o r n place at at_row col at_column = rw (at, at_row, col, at_column) refl

-- of two places with as many characters from one start, the first of which is a boundary, neither is further on
pub no_further : (text : List ℕ) (s p q : ℕ) → IsCharBoundary text q → s ≤ q → p ≤ length text → char_count (slice_range text s p) ≡ char_count (slice_range text s q) → p ≤ q
no_further text s p q b le within same =
    ⊎_elim (λ lt. absurd (omega (arith, same, char_count-lt text q p b lt (omega arith), char_count-between text s p (omega arith), char_count-between text s q le)))
    (λ ge. ge) (cases_lt q p)

mark_high : (text : List ℕ) → begins_with_mark text ≡ true → (i : ℕ) → i < 3 → 128 ≤ get_or text i 0
mark_high text e zero h = omega (arith, (mark_bytes text e).0)
mark_high text e (suc zero) h = omega (arith, (mark_bytes text e).1)
mark_high text e (suc (suc zero)) h = omega (arith, (mark_bytes text e).2)
mark_high text e (suc (suc (suc i))) h = absurd (omega arith)

-- in a text with a mark no row starts within it
row_of_mark : (text : List ℕ) → begins_with_mark text ≡ true → row_of (breaks_of text) 3 ≡ 0
row_of_mark text e =
    let none : LineBreak = record { start = 0; end = 0 } in
    ⊎_elim (λ some.
    let early = ends_before_row (breaks_of text) 3 (breaks_valid text).ordered 0 none some in
    let low = break_ends_ascii text 0 none (omega (arith, some, row_le (breaks_of text) 3)) in
    absurd (omega (arith, low, mark_high text e _ early)))
    (λ zero. omega arith)
    (cases_lt 0 (row_of (breaks_of text) 3))

-- only before a mark is a place of the row before where its columns are counted from
before_counted : (text : List ℕ) (p r : ℕ) → row_of (breaks_of text) p ≡ r → p < counted_from text r → (r ≡ 0) × (begins_with_mark text ≡ true)
before_counted text p r at lt = said (begins_with_mark text) refl
  where
    later : 0 < r → ⊥
    later h = omega (arith, counted_from_later text r h, row_start_le (length text) (breaks_of text) p r (breaks_valid text).ordered (sym at))

    said : (b : Bool) → begins_with_mark text ≡ b → (r ≡ 0) × (begins_with_mark text ≡ true)
    said true e = ⊎_elim (λ h. absurd (later h)) (λ h. (omega (arith, h), e)) (cases_lt 0 r)
    said false e = ⊎_elim (λ h. absurd (later h)) (λ h. absurd (omega (arith, counted_from_first text r (omega (arith, h)) e))) (cases_lt 0 r)

-- a place with the column but not the row shows that no boundary has both
pub other_row : (text : List ℕ) (r n q : ℕ) (place : SourceLocation) → IsUtf8 text → IsCharBoundary text q → counted_from text r ≤ q
    → char_count (slice_range text (counted_from text r) q) ≡ n → r + 1 ≡ place.row → n + 1 ≡ place.column → (row_of (breaks_of text) q ≡ r → ⊥)
    → (p : ℕ) → IsCharBoundary text p → location_of text p ≡ place → ⊥
other_row text r n q place utf8 b le col at_row at_column other p bp e =
    let s = counted_from text r in
    let same = column_known text p r n place e at_row at_column in
    let here = row_known text p r place e at_row in
    let upto = no_further text s p q b le bp.0 (same ∙ sym col) in
    ⊎_elim (λ before.
    let mark = before_counted text p r here before in
    let none = char_count-none text s p (omega arith) in
    let three = counted_from_mark text r mark.0 mark.1 in
    let back = no_further text s q s (counted_from_boundary text r utf8) (omega arith) b.0 (col ∙ sym same ∙ none ∙ sym (char_count-none text s s (omega arith))) in
    let at : q ≡ 3 = omega arith in
    other (ap (row_of (breaks_of text)) at ∙ row_of_mark text mark.1 ∙ sym mark.0))
    (λ from. let exact : p ≡ q = omega (arith, upto, no_further text s q p bp from b.0 (col ∙ sym same)) in
    other (subst (λ k. row_of (breaks_of text) k ≡ r) exact here))
    (cases_lt p s)

-- no boundary has a row past the last
pub no_row : (text : List ℕ) (r : ℕ) (place : SourceLocation) → length (breaks_of text) < r → r + 1 ≡ place.row
    → (p : ℕ) → IsCharBoundary text p → location_of text p ≡ place → ⊥
no_row text r place past at_row p bp e = omega (arith, past, row_known text p r place e at_row, row_le (breaks_of text) p)

-- a place with the row and the column is the largest boundary with them
pub found_largest : (text : List ℕ) (r n q : ℕ) (place : SourceLocation) → IsCharBoundary text q → counted_from text r ≤ q
    → char_count (slice_range text (counted_from text r) q) ≡ n → r + 1 ≡ place.row → n + 1 ≡ place.column
    → (p : ℕ) → IsCharBoundary text p → location_of text p ≡ place → p ≤ q
found_largest text r n q place b le col at_row at_column p bp e =
    no_further text (counted_from text r) p q b le bp.0 (column_known text p r n place e at_row at_column ∙ sym col)

-- what was found in the bytes of a row, said of the text
record IsFound (text : List ℕ) (r n q : ℕ) : Type 0 where
  boundary : IsCharBoundary text q
  later : counted_from text r ≤ q
  count : char_count (slice_range text (counted_from text r) q) ≡ n

-- the bytes of a row from where its columns are counted
abbrev pub IsRowOf : List ℕ → ℕ → ℕ → ℕ → List ℕ → Type 0
IsRowOf text r start end bytes =
    (start ≡ counted_from text r) × (end ≡ row_start (length text) (breaks_of text) (r + 1)) × (bytes ≡ slice_range text start end)

-- a row's columns are counted from no later than its end
pub counted_from-le-next : (text : List ℕ) (r : ℕ) → counted_from text r ≤ row_start (length text) (breaks_of text) (r + 1)
counted_from-le-next text r = said (begins_with_mark text) refl
  where
    plain : counted_from text r ≡ row_start (length text) (breaks_of text) r → counted_from text r ≤ row_start (length text) (breaks_of text) (r + 1)
    plain e = omega (arith, e, row_start-le-next (length text) (breaks_of text) r (breaks_valid text))

    first_row : r ≡ 0 → begins_with_mark text ≡ false → counted_from text r ≡ row_start (length text) (breaks_of text) r
    first_row first e = counted_from_first text r first e ∙ sym (ap (row_start (length text) (breaks_of text)) first ∙ row_start_first (length text) (breaks_of text))

    said : (b : Bool) → begins_with_mark text ≡ b → counted_from text r ≤ row_start (length text) (breaks_of text) (r + 1)
    said true e =
        ⊎_elim (λ first. omega (
          arith,
          counted_from_mark text r first e,
          ap (λ k. row_start (length text) (breaks_of text) (k + 1)) first,
          le_next_start (length text) (breaks_of text) 3 0 (breaks_valid text).ordered (mark_within text e).0 (row_of_mark text e),
        ))
        (λ later. plain (counted_from_later text r (omega arith))) (cases_eq r 0)
    said false e = ⊎_elim (λ first. plain (first_row first e)) (λ later. plain (counted_from_later text r (omega arith))) (cases_eq r 0)

-- the row lies within the text
pub row_bounds : (text : List ℕ) (r start end : ℕ) → start ≡ counted_from text r → end ≡ row_start (length text) (breaks_of text) (r + 1) → (start ≤ end) × (end ≤ length text)
row_bounds text r start end is_start is_end =
    (omega (arith, is_start, is_end, counted_from-le-next text r), omega (arith, is_end, row_start-le (length text) (breaks_of text) (r + 1) (breaks_valid text)))

row_within : (text bytes : List ℕ) (r start end : ℕ) → IsRowOf text r start end bytes → (start ≤ end) × (end ≤ length text) × (length bytes ≡ end - start)
row_within text bytes r start end (is_start, is_end, is_bytes) =
    let bounds = row_bounds text r start end is_start is_end in
    (bounds.0, bounds.1, ap length is_bytes ∙ omega (arith, bounds, length-take (end - start) (drop start text), length-drop start text))

found_in_row : (text bytes : List ℕ) (r n start end at : ℕ) → IsUtf8 text → IsRowOf text r start end bytes
    → IsCharBoundary bytes at × (char_count (take at bytes) ≡ n) → IsFound text r n (start + at)
found_in_row text bytes r n start end at utf8 row nth =
    let parts = row_within text bytes r start end row in
    let upto : start + at ≤ end = omega (arith, parts, nth.0.0) in
    let gap : start + at - start ≡ at = omega arith in
    let front : take at bytes ≡ take at (drop start text) = ap (take at) row.2 ∙ take-take at (end - start) (drop start text) (omega arith) in
    record {
      boundary = ⊎_elim
          (λ lt.
          let same : get_or bytes at 0 ≡ get_or text (start + at) 0 =
          ap (λ l. get_or l at 0) row.2 ∙ get_or-take (end - start) (drop start text) at 0 (omega arith) ∙ get_or-drop start text at 0 in
          (omega (arith, parts, upto), λ h high. omega (arith, same, nth.0.1 (omega (arith, parts, lt)) (omega (arith, same, high)))))
          (λ ge. let last : start + at ≡ row_start (length text) (breaks_of text) (r + 1) = omega (arith, row.1, upto, ge) in
          subst (λ k. IsCharBoundary text k) (sym last) (row_start_boundary text (r + 1) utf8))
          (cases_lt (start + at) end);
      later = omega (arith, row.0);
      count = rw (← row.0) (ap (λ k. char_count (take k (drop start text))) gap ∙ ap char_count (sym front) ∙ nth.1);
    }

-- where a row's columns are counted from is in the row or behind its start
start-le-counted : (text : List ℕ) (r : ℕ) → row_start (length text) (breaks_of text) r ≤ counted_from text r
start-le-counted text r =
    ⊎_elim (λ first. omega (arith, ap (row_start (length text) (breaks_of text)) first, row_start_first (length text) (breaks_of text)))
    (λ later. omega (arith, counted_from_later text r (omega arith))) (cases_eq r 0)

pub answer_found : (text bytes : List ℕ) (r n start end at : ℕ) (place : SourceLocation) → IsUtf8 text → IsRowOf text r start end bytes
    → IsCharBoundary bytes at × (char_count (take at bytes) ≡ n) → r + 1 ≡ place.row → n + 1 ≡ place.column → r ≤ length (breaks_of text) → (r < length (breaks_of text) → start + at < end)
    → IsOffsetAt text place (Some (start + at))
answer_found text bytes r n start end at place utf8 row nth at_row at_column within before =
    let found = found_in_row text bytes r n start end at utf8 row nth in
    let same = row_of-between (length text) (breaks_of text) (start + at) r (breaks_valid text).ordered within (omega (arith, start-le-counted text r, row.0)) (λ h. omega (arith, before h, row.1)) in
    (found.boundary, location_is text (start + at) r n place same at_row found.count at_column, found_largest text r n (start + at) place found.boundary found.later found.count at_row at_column)

pub answer_other : (text bytes : List ℕ) (r n start end at : ℕ) (place : SourceLocation) → IsUtf8 text → IsRowOf text r start end bytes
    → IsCharBoundary bytes at × (char_count (take at bytes) ≡ n) → r + 1 ≡ place.row → n + 1 ≡ place.column → r < length (breaks_of text) → end ≤ start + at
    → IsOffsetAt text place None
answer_other text bytes r n start end at place utf8 row nth at_row at_column more past =
    let found = found_in_row text bytes r n start end at utf8 row nth in
    let last : start + at ≡ end = omega (arith, past, nth.0.0, row_within text bytes r start end row) in
    let next : row_of (breaks_of text) (start + at) ≡ r + 1 =
    ap (row_of (breaks_of text)) (last ∙ row.1) ∙ row_of-start (length text) (breaks_of text) (r + 1) (breaks_valid text).ordered (omega (arith, more)) in
    other_row text r n (start + at) place utf8 found.boundary found.later found.count at_row at_column (λ same. omega (arith, same, next))

-- no more characters before an offset of a row than in the row
char_count-le-row : (text : List ℕ) (s p e : ℕ) → p ≤ e → char_count (slice_range text s p) ≤ char_count (slice_range text s e)
char_count-le-row text s p e le =
    ⊎_elim (λ before. omega (arith, char_count-none text s p (omega arith)))
    (λ from. omega (arith, char_count-between text s p from, char_count-between text s e (omega arith), char_count-le text p e le))
    (cases_lt p s)

-- the number of rows, by the index
pub rows_known : (index : IndexView) (starts text : List ℕ) → starts ≡ index.line_starts → index ≡ index_of text → length starts ≡ length (breaks_of text) + 1
rows_known index starts text held e = ap length (held ∙ starts_of index text e) ∙ omega (arith, length-map (breaks_of text) (λ (b : LineBreak). b.end + 1))

pub answer_few : (text bytes : List ℕ) (r n start end : ℕ) (place : SourceLocation) → IsRowOf text r start end bytes
    → char_count bytes < n → r + 1 ≡ place.row → n + 1 ≡ place.column → IsOffsetAt text place None
answer_few text bytes r n start end place row few at_row at_column p bp e =
    let here = row_known text p r place e at_row in
    let upto : p ≤ end = omega (arith, row.1, le_next_start (length text) (breaks_of text) p r (breaks_valid text).ordered bp.0 here) in
    let same = column_known text p r n place e at_row at_column in
    let whole : char_count bytes ≡ char_count (slice_range text start end) = ap char_count row.2 in
    omega (arith, few, whole, ap (λ s. char_count (slice_range text s p)) row.0, same, char_count-le-row text start p end upto)

-- a boundary before the end of a mark is its beginning
mark_start : (text : List ℕ) (o : ℕ) → begins_with_mark text ≡ true → IsCharBoundary text o → o < 3 → o ≡ 0
mark_start text zero e b lt = refl
mark_start text (suc zero) e b lt = absurd (omega (arith, b.1 (omega (arith, (mark_within text e).0)) (omega (arith, (mark_bytes text e).1)), (mark_bytes text e).1))
mark_start text (suc (suc zero)) e b lt = absurd (omega (arith, b.1 (omega (arith, (mark_within text e).0)) (omega (arith, (mark_bytes text e).2)), (mark_bytes text e).2))
mark_start text (suc (suc (suc o))) e b lt = absurd (omega arith)

-- 0 and 3 have one location in a text with a mark
mark_locations : (text : List ℕ) → begins_with_mark text ≡ true → location_of text 3 ≡ location_of text 0
mark_locations text e =
    let from : counted_from text 0 ≡ 3 = counted_from_mark text 0 refl e in
    let place : SourceLocation = record { row = 1; column = 1 } in
    location_is text 3 0 0 place (row_of_mark text e) (omega arith) (char_count-none text (counted_from text 0) 3 (omega arith)) (omega arith)
    ∙ sym (location_is text 0 0 0 place (row_of_none text) (omega arith) (char_count-none text (counted_from text 0) 0 (omega arith)) (omega arith))

-- the largest boundary with the location of a boundary
module _ (text : List ℕ) (o q : ℕ) (utf8 : IsUtf8 text) (bo : IsCharBoundary text o) (bq : IsCharBoundary text q) (e : location_of text q ≡ location_of text o)
    (largest : (p : ℕ) → IsCharBoundary text p → location_of text p ≡ location_of text o → p ≤ q) where
  r : ℕ
  r = row_of (breaks_of text) o

  same_count : char_count (slice_range text (counted_from text r) q) ≡ char_count (slice_range text (counted_from text r) o)
  unfolding r
  same_count = column_known text q (row_of (breaks_of text) o) _ (location_of text o) e (row_at text o (location_of text o) refl) (column_at text o (location_of text o) refl)

  again_from : counted_from text r ≤ o → q ≡ o
  again_from le = omega (arith, largest o bo refl, no_further text (counted_from text r) q o bo le bq.0 same_count)

  again_mark : o ≡ 0 → begins_with_mark text ≡ true → q ≡ 3
  unfolding r
  again_mark first mark =
      let at : row_of (breaks_of text) o ≡ 0 = ap (row_of (breaks_of text)) first ∙ row_of_none text in
      let from : counted_from text (row_of (breaks_of text) o) ≡ 3 = counted_from_mark text (row_of (breaks_of text) o) at mark in
      let three : location_of text 3 ≡ location_of text o = mark_locations text mark ∙ ap (location_of text) (sym first) in
      let far = largest 3 (mark_boundary text utf8 mark) three in
      let s = counted_from text (row_of (breaks_of text) o) in
      let near = no_further text s q s (counted_from_boundary text (row_of (breaks_of text) o) utf8) (omega arith) bq.0
      (same_count ∙ char_count-none text s o (omega arith) ∙ sym (char_count-none text s s (omega arith))) in
      omega arith

  -- it is that boundary, or 3 for the beginning of a mark
  pub again_is : (b : Bool) → (o == 0) && begins_with_mark text ≡ b → q ≡ cond b 3 o
  unfolding r
  again_is true both =
      let parts = and_parts (o == 0) (begins_with_mark text) both in
      again_mark (eqb-true o 0 parts.0) parts.1
  again_is false some =
      ⊎_elim (λ before.
      let mark = before_counted text o (row_of (breaks_of text) o) refl before in
      let first = mark_start text o mark.1 bo (omega (arith, before, counted_from_mark text (row_of (breaks_of text) o) mark.0 mark.1)) in
      absurd (false≢true (sym some ∙ rw (first, mark.1) refl)))
      again_from
      (cases_lt o (counted_from text (row_of (breaks_of text) o)))

-- the largest boundary with the location of a boundary is that boundary, but for 0 before a mark
pub found_again_is : (text : List ℕ) (o : ℕ) (answer : Option ℕ) → IsUtf8 text → IsCharBoundary text o → IsOffsetAt text (location_of text o) answer
    → answer ≡ Some (cond ((o == 0) && begins_with_mark text) 3 o)
found_again_is text o None utf8 bo none = absurd (none o bo refl)
found_again_is text o (Some q) utf8 bo found = ap Some (again_is text o q utf8 bo found.0 found.1 found.2 ((o == 0) && begins_with_mark text) refl)
