-- Places and the ways back.
use Rattle.std.proofs.Common.{◌≡◌, ◌⊎◌, inl, inr, ℕ, ◌+◌, ◌≤◌, ◌<◌, List, length, get_or, map, refl, sym, ap, subst, ◌∙◌, arith, add-one, ⊎_elim, slice_range, Option, Some, None}
use Rattle.std.specs.Str.{IsUtf8, IsCharBoundary}
use Rattle.std.proofs.lemmas.Bool.{cases_lt}
use Rattle.std.proofs.lemmas.List.{length-map, get_or_past, get_or_default}
use Rattle.std.proofs.lemmas.Str.{IsCharBoundary-before_ascii, IsCharBoundary-end}
use Rattle.source_location.specs.Breaks.{LineBreak, breaks_of}
use Rattle.source_location.specs.Rows.{row_of, line_starts}
use Rattle.source_location.proofs.BreaksLemmas.{breaks_valid, break_ends_ascii}
use Rattle.source_location.proofs.IndexLemmas.{start_at}
use Rattle.source_location.proofs.RowsLemmas.{row_le, row_start-le, row_start_after, row_of-between, ends_from_row}
use Rattle.text_places.specs.Places.{line_end, line_start_of}
pub use Rattle.text_places.proofs.PlaceLemmas.{row_of-le, break_begins, line_end_is, before_break}
use Rattle.utf16_places.specs.Units.{utf16_units}
use Rattle.utf16_places.specs.Places.{utf16_place, IsBefore, IsOffsetOf, IsUpTo, IsNearest, PartsNoCrlf}
use Rattle.utf16_places.specs.Parts.{IsLinePart, IsCounted, IsLastIn}
use Rattle.utf16_places.specs.declared.place.Place16.{Place16}
use Rattle.utf16_places.specs.declared.wide.Counted.{Counted}
use Rattle.utf16_places.proofs.UnitsLemmas.{before, before-le, before-lt, units-between}
use Rattle.utf16_places.proofs.LineLemmas.{starts_at, line_start-row, line_start-le, line_start-boundary, row_between, in_part, counted_units}

pub place-line : (text : List ℕ) (o : ℕ) → (utf16_place text o).line ≡ row_of (breaks_of text) o
unfolding utf16_place
place-line text o = refl

pub place-unit : (text : List ℕ) (o : ℕ) → (utf16_place text o).unit ≡ utf16_units (slice_range text (line_start_of text o) o)
unfolding utf16_place
place-unit text o = refl

pub place_is : (text : List ℕ) (o : ℕ) (place : Place16) → row_of (breaks_of text) o ≡ place.line → utf16_units (slice_range text (line_start_of text o) o) ≡ place.unit → utf16_place text o ≡ place
unfolding utf16_place
place_is text o place line unit = rw (line, unit) refl

-- the units before a boundary, by its place
pub place_units : (text : List ℕ) (o : ℕ) → IsUtf8 text → IsCharBoundary text o → (utf16_place text o).unit + before text (line_start_of text o) ≡ before text o
place_units text o utf8 b =
    omega (arith, place-unit text o, units-between text (line_start_of text o) o utf8 (line_start-boundary text o utf8) b (line_start-le text o))

-- places ascend with boundaries
pub ascending : (text : List ℕ) (a b : ℕ) → IsUtf8 text → IsCharBoundary text a → IsCharBoundary text b → a < b → IsBefore (utf16_place text a) (utf16_place text b)
ascending text a b utf8 first second lt =
    let rise = row_of-le text a b (omega arith) in
    ⊎_elim (λ earlier. inl (omega (arith, earlier, place-line text a, place-line text b)))
    (λ ge.
    let same : row_of (breaks_of text) a ≡ row_of (breaks_of text) b = omega (arith, rise, ge) in
    let line : line_start_of text a ≡ line_start_of text b = line_start-row text a ∙ ap (starts_at text) same ∙ sym (line_start-row text b) in
    inr (
      place-line text a ∙ same ∙ sym (place-line text b),
      omega (
        arith,
        place_units text a utf8 first,
        place_units text b utf8 second,
        ap (before text) line,
        before-lt text a b first lt (omega (arith, lt, second.0)),
      ),
    ))
    (cases_lt (row_of (breaks_of text) a) (row_of (breaks_of text) b))

not_before : (place other : Place16) → place ≡ other → IsBefore place other → ⊥
not_before place other e (inl line) = omega (arith, line, ap (λ (p : Place16). p.line) e)
not_before place other e (inr (line, unit)) = omega (arith, unit, ap (λ (p : Place16). p.unit) e)

-- boundaries with one place are one
pub one_offset : (text : List ℕ) (a b : ℕ) → IsUtf8 text → IsCharBoundary text a → IsCharBoundary text b → utf16_place text a ≡ utf16_place text b → a ≡ b
one_offset text a b utf8 first second e =
    ⊎_elim (λ lt. absurd (not_before _ _ e (ascending text a b utf8 first second lt)))
    (λ ge. ⊎_elim (λ gt. absurd (not_before _ _ (sym e) (ascending text b a utf8 second first gt))) (λ le. omega (arith, le, ge)) (cases_lt b a))
    (cases_lt a b)

pub line_known : (text : List ℕ) (o : ℕ) (place : Place16) → utf16_place text o ≡ place → row_of (breaks_of text) o ≡ place.line
line_known text o place e = sym (place-line text o) ∙ ap (λ (p : Place16). p.line) e

-- a counted boundary with the place is the one that has it
pub offset_found : (text : List ℕ) (start limit : ℕ) (counted : Counted) (place : Place16) → IsUtf8 text → IsLinePart text start limit → row_of (breaks_of text) limit ≡ place.line
    → IsCounted text start limit counted → counted.unit ≡ place.unit → IsOffsetOf text place (Some counted.offset)
offset_found text start limit counted place utf8 part line is unit =
    let row : row_of (breaks_of text) counted.offset ≡ place.line = row_between text counted.offset limit (omega (arith, part.line, is.from)) is.up_to ∙ line in
    let here : utf16_place text counted.offset ≡ place =
    place_is text counted.offset place row (ap (λ s. utf16_units (slice_range text s counted.offset)) (in_part text start limit counted.offset part is.from is.up_to) ∙ sym is.unit ∙ unit) in
    (is.boundary, here, λ o b e. one_offset text o counted.offset utf8 b is.boundary (e ∙ sym here))

-- where the largest boundary with few enough units has fewer, no boundary has the place
pub offset_missing : (text : List ℕ) (start limit : ℕ) (counted : Counted) (place : Place16) → IsUtf8 text → IsLinePart text start limit → IsLastIn text place.line limit
    → IsCounted text start limit counted → counted.unit ≤ place.unit → (counted.unit ≡ place.unit → ⊥)
    → ((o : ℕ) → IsCharBoundary text o → start ≤ o → o ≤ limit → utf16_units (slice_range text start o) ≤ place.unit → o ≤ counted.offset)
    → IsOffsetOf text place None
offset_missing text start limit counted place utf8 part end is few other largest o b e =
    let row = line_known text o place e in
    let upto = end.last o b.0 row in
    let line : line_start_of text o ≡ start = line_start-row text o ∙ ap (starts_at text) (row ∙ sym end.row) ∙ sym (line_start-row text limit) ∙ part.line in
    let from : start ≤ o = omega (arith, line, line_start-le text o) in
    let unit : utf16_units (slice_range text start o) ≡ place.unit = ap (λ s. utf16_units (slice_range text s o)) (sym line) ∙ sym (place-unit text o) ∙ ap (λ (p : Place16). p.unit) e in
    let le = largest o b from upto (omega (arith, unit)) in
    other (omega (
      arith,
      few,
      unit,
      before-le text o counted.offset le,
      place_units text o utf8 b,
      ap (before text) line,
      ap (λ (p : Place16). p.unit) e,
      counted_units text start limit counted utf8 part is,
    ))

-- no boundary has a line past the last
pub offset_past : (text : List ℕ) (place : Place16) → length (breaks_of text) < place.line → IsOffsetOf text place None
offset_past text place past o b e = omega (arith, past, line_known text o place e, row_le (breaks_of text) o)

-- the largest boundary with few enough units is the nearest
pub nearest_found : (text : List ℕ) (start limit : ℕ) (counted : Counted) (place : Place16) → IsLinePart text start limit → row_of (breaks_of text) limit ≡ place.line → limit ≡ line_end text place.line
    → IsCounted text start limit counted → counted.unit ≤ place.unit → place.line ≤ length (breaks_of text)
    → ((o : ℕ) → IsCharBoundary text o → start ≤ o → o ≤ limit → utf16_units (slice_range text start o) ≤ place.unit → o ≤ counted.offset)
    → IsNearest text place counted.offset
nearest_found text start limit counted place part line end is few within largest =
    let row : row_of (breaks_of text) counted.offset ≡ place.line = row_between text counted.offset limit (omega (arith, part.line, is.from)) is.up_to ∙ line in
    let from = in_part text start limit counted.offset part is.from is.up_to in
    record {
      past = λ past. absurd (omega (arith, past, within));
      up_to = λ _. record {
        boundary = is.boundary;
        line = place-line text counted.offset ∙ row;
        before_break = omega (arith, is.up_to, end);
        unit = omega (arith, place-unit text counted.offset, ap (λ s. utf16_units (slice_range text s counted.offset)) from, is.unit, few);
      };
      largest = λ _ o it.
          let at : line_start_of text o ≡ start = line_start-row text o ∙ ap (starts_at text) (sym (place-line text o) ∙ it.line ∙ sym line) ∙ sym (line_start-row text limit) ∙ part.line in
          largest o it.boundary (omega (arith, at, line_start-le text o)) (omega (arith, it.before_break, end))
          (omega (arith, place-unit text o, ap (λ s. utf16_units (slice_range text s o)) at, it.unit));
    }

-- past the last line it is the text's end
pub nearest_past : (text : List ℕ) (place : Place16) (end : ℕ) → end ≡ length text → length (breaks_of text) < place.line → IsNearest text place end
nearest_past text place end is past = record {
  past = λ _. is;
  up_to = λ within. absurd (omega (arith, past, within));
  largest = λ within. absurd (omega (arith, past, within));
}

-- and its last byte
pub break_ends : (text : List ℕ) (line : ℕ) (d : LineBreak) → IsUtf8 text → line < length (breaks_of text) → IsLastIn text line (get_or (breaks_of text) line d).end
break_ends text line d utf8 h =
    let b = get_or (breaks_of text) line d in
    let ok = breaks_valid text in
    let begins = break_begins text line d utf8 h in
    let shape = ok.ordered.shape line d h in
    record {
      boundary = IsCharBoundary-before_ascii text b.end (ok.within line d h) (break_ends_ascii text line d h);
      row = row_of-between (length text) (breaks_of text) b.end line ok.ordered (omega arith)
          (omega (arith, shape, line_start-le text b.start, line_start-row text b.start, ap (starts_at text) begins.1))
          (λ _. omega (arith, ap (starts_at text) (add-one line), row_start_after (length text) (breaks_of text) line d h));
      last = λ o _ row. ends_from_row (breaks_of text) o ok.ordered line d (omega (arith, row)) h;
    }

-- the last line ends with the text
pub text_ends : (text : List ℕ) (line : ℕ) → line ≡ length (breaks_of text) → IsLastIn text line (length text)
text_ends text line e =
    let ok = breaks_valid text in
    record {
      boundary = IsCharBoundary-end text;
      row = row_of-between (length text) (breaks_of text) (length text) line ok.ordered (omega (arith, e)) (row_start-le (length text) (breaks_of text) line ok) (λ more. absurd (omega (arith, more, e)));
      last = λ o within _. within;
    }

-- a part of a line, by a boundary of the line
pub part_of : (text : List ℕ) (line limit start : ℕ) → IsCharBoundary text limit → row_of (breaks_of text) limit ≡ line → start ≡ starts_at text line → IsLinePart text start limit
part_of text line limit start b row is = record {
  boundary = b;
  line = line_start-row text limit ∙ ap (starts_at text) row ∙ sym is;
}

-- the same from the list of where the breaks begin
pub line_end-at : (begins text : List ℕ) (line d : ℕ) → begins ≡ map (λ (b : LineBreak). b.start) (breaks_of text) → line < length begins → get_or begins line d ≡ line_end text line
unfolding line_end
line_end-at begins text line d e h =
    ap (λ l. get_or l line d) e ∙ get_or_default (map (λ (b : LineBreak). b.start) (breaks_of text)) line d (length text) (omega (arith, ap length e, h))

pub line_end-past : (begins text : List ℕ) (line : ℕ) → begins ≡ map (λ (b : LineBreak). b.start) (breaks_of text) → length begins ≤ line → length text ≡ line_end text line
unfolding line_end
line_end-past begins text line e h = sym (get_or_past (map (λ (b : LineBreak). b.start) (breaks_of text)) line (length text) (omega (arith, ap length e, h)))

-- where the next line starts, by the list of line starts
pub next_start : (starts text : List ℕ) (line d : ℕ) (b : LineBreak) → starts ≡ line_starts (breaks_of text) → line + 1 < length starts
    → (line < length (breaks_of text)) × (get_or starts (line + 1) d ≡ (get_or (breaks_of text) line b).end + 1)
next_start starts text line d b e h =
    let within : line < length (breaks_of text) = omega (arith, h, ap length e, length-map (breaks_of text) (λ (b : LineBreak). b.end + 1)) in
    (within, start_at starts text (line + 1) d e h ∙ ap (starts_at text) (add-one line) ∙ row_start_after (length text) (breaks_of text) line b within)

-- each boundary is the one that its own place leads back to
pub leads_back : (text : List ℕ) (o : ℕ) (answer : Option ℕ) → IsUtf8 text → IsCharBoundary text o → IsOffsetOf text (utf16_place text o) answer → answer ≡ Some o
leads_back text o None utf8 b is = absurd (is o b refl)
leads_back text o (Some found) utf8 b is = ap (λ (k : ℕ). Some k) (sym (is.2 o b refl))

-- the nearest boundary to the place of such a boundary is that boundary
pub nearest_keeps : (text : List ℕ) (o answer : ℕ) → IsUtf8 text → PartsNoCrlf text o → IsNearest text (utf16_place text o) answer → answer ≡ o
nearest_keeps text o answer utf8 (b, whole) is =
    let line = place-line text o in
    let within : (utf16_place text o).line ≤ length (breaks_of text) = omega (arith, line, row_le (breaks_of text) o) in
    let same : (utf16_place text o).unit ≤ (utf16_place text o).unit = omega arith in
    let upto : o ≤ line_end text (utf16_place text o).line = subst (λ r. o ≤ line_end text r) (sym line) (before_break text o b.0 whole) in
    let itself : IsUpTo text (utf16_place text o) o = record { boundary = b; line = refl; before_break = upto; unit = same } in
    let found = is.up_to within in
    let ge = is.largest within o itself in
    ⊎_elim (λ lt. absurd (not_past (ascending text o answer utf8 b found.boundary lt) found.line found.unit)) (λ le. omega (arith, le, ge)) (cases_lt o answer)
  where
    not_past : {place other : Place16} → IsBefore place other → other.line ≡ place.line → other.unit ≤ place.unit → ⊥
    not_past (inl earlier) line unit = omega (arith, earlier, line)
    not_past (inr (same, earlier)) line unit = omega (arith, earlier, unit)

-- the same of a place that is known to be a boundary's
pub leads_back_to : (text : List ℕ) (o : ℕ) (place : Place16) (answer : Option ℕ) → IsUtf8 text → IsCharBoundary text o → place ≡ utf16_place text o → IsOffsetOf text place answer → answer ≡ Some o
leads_back_to text o place answer utf8 b e is = leads_back text o answer utf8 b (subst (λ p. IsOffsetOf text p answer) e is)

pub nearest_keeps_to : (text : List ℕ) (o : ℕ) (place : Place16) (answer : ℕ) → IsUtf8 text → PartsNoCrlf text o → place ≡ utf16_place text o → IsNearest text place answer → answer ≡ o
nearest_keeps_to text o place answer utf8 whole e is = nearest_keeps text o answer utf8 whole (subst (λ p. IsNearest text p answer) e is)

-- what is nearest is a boundary
pub nearest_boundary : (text : List ℕ) (place : Place16) (answer : ℕ) → IsNearest text place answer → IsCharBoundary text answer
nearest_boundary text place answer is =
    ⊎_elim (λ past. subst (λ k. IsCharBoundary text k) (sym (is.past past)) (IsCharBoundary-end text)) (λ within. (is.up_to within).boundary) (cases_lt (length (breaks_of text)) place.line)
