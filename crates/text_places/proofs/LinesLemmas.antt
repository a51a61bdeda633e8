-- Lines that lie in one page.
use Rattle.std.proofs.Common.{◌≡◌, ⊎_elim, ℕ, ◌+◌, ◌-◌, ◌<◌, ◌≤◌, List, length, get_or, refl, sym, ap, subst, ◌∙◌, arith, add-one, Some, None, true, cond, ◌==◌}
use Rattle.std.specs.Str.{IsUtf8, IsCharBoundary}
use Rattle.std.proofs.lemmas.Bool.{cases_lt, and_parts, eqb-true}
use Rattle.std.proofs.lemmas.Str.{IsCharBoundary-before_ascii}
use Rattle.source_location.specs.Breaks.{LineBreak, break_at, breaks_of}
use Rattle.source_location.specs.Rows.{row_of}
use Rattle.source_location.proofs.BreaksLemmas.{breaks_valid, breaks_found}
use Rattle.source_location.proofs.RowsLemmas.{row_of-between, row_start_after}
use Rattle.text_places.specs.Bytes.{before}
use Rattle.text_places.specs.Ends.{IsRowEnd}
use Rattle.text_places.specs.Places.{place_at, line_start_of, line_end, IsOffsetOf, IsNearest}
use Rattle.text_places.specs.Pages.{bytes_in, units_in, HasOffset, TellsText, IsLastUpTo, ends_pair}
use Rattle.text_places.specs.Lines.{IsLineInPage}
use Rattle.text_places.specs.declared.seek.LineInPage.{LineInPage}
use Rattle.text_places.specs.declared.encoding.Encoding.{Encoding}
use Rattle.text_places.specs.declared.page.Page.{Page}
use Rattle.text_places.specs.declared.place.Place.{Place}
use Rattle.text_places.proofs.UnitsLemmas.{before-le, boundary_by}
use Rattle.text_places.proofs.LineLemmas.{starts_at, line_start-row, before_next}
use Rattle.text_places.proofs.PlaceLemmas.{place_units, line_known, one_offset, break_low}
use Rattle.text_places.proofs.PagesLemmas.{two_bytes, shaped}
use Rattle.text_places.proofs.AnswersLemmas.{place_counted, nearest_upto, start_to_end}

-- an offset whose row starts in its page
pub place_in_page : (e : Encoding) (text : List ℕ) (o row start unit line : ℕ) (page : Page) → IsUtf8 text → IsCharBoundary text o → HasOffset text o page → TellsText text page → 1 ≤ row
    → row ≡ row_of (breaks_of (bytes_in page)) (o - page.before.bytes) → IsRowEnd (bytes_in page) row start
    → before e (bytes_in page) start + unit ≡ before e (bytes_in page) (o - page.before.bytes) → line ≡ page.before.rows + row
    → (place : Place) → place.line ≡ line → place.unit ≡ unit → place ≡ place_at e text o
place_in_page e text o row start unit line page utf8 b has tells some rows end units is place sameline sameunit =
    let begin : page.before.bytes + start ≡ starts_at text line = tells.starts row start some end ∙ ap (starts_at text) (sym is) in
    let counted : unit + before e text (page.before.bytes + start) ≡ before e text o = omega (arith, tells.units e start end.within, has.units e, units) in
    place_counted e text o line (page.before.bytes + start) unit utf8 b (omega (arith, is, rows, has.rows)) begin counted place sameline sameunit

-- what is reached in a page, in the text
pub reached_in_text : (e : Encoding) (text : List ℕ) (page : Page) (from most limit place : ℕ) → TellsText text page → from ≤ length (bytes_in page) → limit ≤ length (bytes_in page)
    → IsLastUpTo e (bytes_in page) (before e (bytes_in page) from + most) limit place
    → IsLastUpTo e text (before e text (page.before.bytes + from) + most) (page.before.bytes + limit) (page.before.bytes + place)
reached_in_text e text page from most limit place tells start end is =
    let at = page.before.bytes in
    let next : at + place + 1 ≡ at + (place + 1) = omega arith in
    record {
      upto = omega (arith, is.upto);
      few = omega (arith, tells.units e from start, tells.units e place (omega (arith, is.upto, end)), is.few);
      more = λ lt. omega (arith, ap (before e text) next, tells.units e from start, tells.units e (place + 1) (omega (arith, lt, end)), is.more (omega (arith, lt)));
    }

-- no later place has so few units before it
pub upto_largest : (e : Encoding) (text : List ℕ) (most limit place o : ℕ) → IsLastUpTo e text most limit place → o ≤ limit → before e text o ≤ most → o ≤ place
upto_largest e text most limit place o is upto few =
    ⊎_elim (λ lt. absurd (omega (arith, is.more (omega arith), before-le e text (place + 1) o (omega arith), few))) (λ ge. ge) (cases_lt place o)

-- offsets from a line's start on and before the next line's are in that line
pub row_inside : (text : List ℕ) (line o : ℕ) → line < length (breaks_of text) → starts_at text line ≤ o → o < starts_at text (line + 1) → row_of (breaks_of text) o ≡ line
row_inside text line o within from upto =
    row_of-between (length text) (breaks_of text) o line (breaks_valid text).ordered (omega arith) from (λ _. upto)

-- the last byte of a break is a boundary: one below 128
pub last_byte : (text : List ℕ) (line limit : ℕ) → line < length (breaks_of text) → limit + 1 ≡ starts_at text (line + 1) → IsCharBoundary text limit
last_byte text line limit within last =
    let none : LineBreak = record { start = 0; end = 0 } in
    let b = get_or (breaks_of text) line none in
    let ok = breaks_valid text in
    let end : limit ≡ b.end = omega (arith, last, row_start_after (length text) (breaks_of text) line none within, ap (starts_at text) (add-one line)) in
    IsCharBoundary-before_ascii text limit (omega (arith, end, ok.within line none within)) (subst (λ k. get_or text k 0 < 128) (sym end) (break_last text b (breaks_found text line none within).0 (ok.ordered.shape line none within)))
  where
    low : (byte : ℕ) → (byte == 10) ≡ true → byte < 128
    low byte e = omega (arith, eqb-true byte 10 e)

    break_last : (text : List ℕ) (b : LineBreak) → break_at text b.start ≡ Some b → (b.start ≤ b.end) × (b.end ≤ b.start + 1) → get_or text b.end 0 < 128
    break_last text b found shape =
        ⊎_elim
        (λ lt.
        let at : b.end ≡ b.start + 1 = omega (arith, lt, shape.1) in
        let is : b ≡ record { start = b.start; end = b.start + 1 } = shaped b b.start (b.start + 1) refl at in
        let pair = two_bytes (get_or text b.start 0) (get_or text (b.start - 1) 0) (get_or text (b.start + 1) 0) b.start (found ∙ ap (λ (x : LineBreak). Some x) is) in
        subst (λ k. get_or text k 0 < 128) (sym at) (low (get_or text (b.start + 1) 0) (and_parts (get_or text (b.start + 1) 0 == 10) (get_or text b.start 0 == 13) pair).0))
        (λ ge. let at : b.end ≡ b.start = omega (arith, ge, shape.0) in subst (λ k. get_or text k 0 < 128) (sym at) (break_low text b found))
        (cases_lt b.start b.end)

-- the boundary with a place is what is reached up to the last byte of its line's break, or none is
pub offset_reached : (e : Encoding) (text : List ℕ) (place : Place) (limit found : ℕ) → IsUtf8 text → place.line < length (breaks_of text) → limit + 1 ≡ starts_at text (place.line + 1)
    → IsCharBoundary text limit → starts_at text place.line ≤ found → IsLastUpTo e text (before e text (starts_at text place.line) + place.unit) limit found
    → before e text found ≡ before e text (starts_at text place.line) + place.unit → IsOffsetOf e text place (Some found)
offset_reached e text place limit found utf8 within last b from is exact =
    let here : IsCharBoundary text found =
    ⊎_elim (λ lt. boundary_by e text found (omega (arith, lt, b.0)) (λ h. omega (arith, is.more lt, exact)))
    (λ ge. let same : limit ≡ found = omega (arith, ge, is.upto) in subst (λ k. IsCharBoundary text k) same b)
    (cases_lt found limit) in
    let row = row_inside text place.line found within from (omega (arith, is.upto, last)) in
    let at : place ≡ place_at e text found =
    place_counted e text found place.line (starts_at text place.line) place.unit utf8 here (sym row) refl (omega (arith, exact)) place refl refl in
    (here, sym at, λ o other same. one_offset e text o found utf8 other here (same ∙ at))

pub offset_missed : (e : Encoding) (text : List ℕ) (place : Place) (limit found : ℕ) → IsUtf8 text → place.line < length (breaks_of text) → limit + 1 ≡ starts_at text (place.line + 1)
    → IsLastUpTo e text (before e text (starts_at text place.line) + place.unit) limit found
    → before e text found < before e text (starts_at text place.line) + place.unit → IsOffsetOf e text place None
offset_missed e text place limit found utf8 within last is fewer o b same =
    let row = line_known e text o place same in
    let start : line_start_of text o ≡ starts_at text place.line = line_start-row text o ∙ ap (starts_at text) row in
    let counted : before e text o ≡ before e text (starts_at text place.line) + place.unit =
    omega (arith, place_units e text o utf8 b, ap (before e text) start, ap (λ (p : Place). p.unit) same) in
    let upto : o ≤ limit = omega (arith, before_next text o place.line row within, last) in
    let le = upto_largest e text (before e text (starts_at text place.line) + place.unit) limit found o is upto (omega (arith, counted)) in
    omega (arith, before-le e text o found le, counted, fewer)

-- the same of a line that lies in a page
pub nearest_in_page : (e : Encoding) (text : List ℕ) (place : Place) (line : LineInPage) (found : ℕ) → IsUtf8 text → IsLineInPage text place.line line
    → IsLastUpTo e (bytes_in line.page.now) (before e (bytes_in line.page.now) line.start + place.unit) line.limit found → IsNearest e text place (line.page.now.before.bytes + found)
nearest_in_page e text place line found utf8 is reached =
    let page = line.page.now in
    let here = reached_in_text e text page line.start place.unit line.limit found is.tells (omega (arith, is.lies.ordered, is.lies.break, is.lies.within)) (omega (arith, is.lies.break, is.lies.within)) reached in
    let from = subst (λ k. IsLastUpTo e text (before e text k + place.unit) (page.before.bytes + line.limit) (page.before.bytes + found)) is.begins here in
    nearest_upto e text place (page.before.bytes + found) utf8 (omega (arith, is.more)) (subst (λ k. IsLastUpTo e text (before e text (starts_at text place.line) + place.unit) k (page.before.bytes + found)) is.ends from)

-- what is reached up to the last byte of the break
line_reached : (e : Encoding) (text : List ℕ) (place : Place) (line : LineInPage) (found : ℕ) → IsLineInPage text place.line line
    → IsLastUpTo e (bytes_in line.page.now) (before e (bytes_in line.page.now) line.start + place.unit) (line.next - 1) found
    → IsLastUpTo e text (before e text (starts_at text place.line) + place.unit) (line.page.now.before.bytes + (line.next - 1)) (line.page.now.before.bytes + found)
line_reached e text place line found is reached =
    let page = line.page.now in
    let here = reached_in_text e text page line.start place.unit (line.next - 1) found is.tells (omega (arith, is.lies.ordered, is.lies.break, is.lies.within)) (omega (arith, is.lies.within)) reached in
    subst (λ k. IsLastUpTo e text (before e text k + place.unit) (page.before.bytes + (line.next - 1)) (page.before.bytes + found)) is.begins here

line_last : (text : List ℕ) (number : ℕ) (line : LineInPage) → IsLineInPage text number line → line.page.now.before.bytes + (line.next - 1) + 1 ≡ starts_at text (number + 1)
line_last text number line is = omega (arith, is.behind, is.lies.break)

line_units : (e : Encoding) (text : List ℕ) (place : Place) (line : LineInPage) (found : ℕ) → IsLineInPage text place.line line → found ≤ length (bytes_in line.page.now)
    → (before e text (line.page.now.before.bytes + found) ≡ units_in e line.page.now.before + before e (bytes_in line.page.now) found)
    × (before e text (starts_at text place.line) ≡ units_in e line.page.now.before + before e (bytes_in line.page.now) line.start)
line_units e text place line found is within = (
  omega (arith, is.tells.units e found within),
  omega (arith, is.tells.units e line.start (omega (arith, is.lies.ordered, is.lies.break, is.lies.within)), ap (before e text) is.begins),
)

pub found_in_page : (e : Encoding) (text : List ℕ) (place : Place) (line : LineInPage) (found left : ℕ) → IsUtf8 text → IsLineInPage text place.line line
    → IsLastUpTo e (bytes_in line.page.now) (before e (bytes_in line.page.now) line.start + place.unit) (line.next - 1) found
    → before e (bytes_in line.page.now) found + left ≡ before e (bytes_in line.page.now) line.start + place.unit → line.start ≤ found → left ≡ 0 → IsOffsetOf e text place (Some (line.page.now.before.bytes + found))
found_in_page e text place line found left utf8 is reached counted behind none =
    let at = line.page.now.before.bytes in
    let units = line_units e text place line found is (omega (arith, reached.upto, is.lies.within)) in
    offset_reached e text place (at + (line.next - 1)) (at + found) utf8 is.more (line_last text place.line line is) (last_byte text place.line (at + (line.next - 1)) is.more (line_last text place.line line is))
    (omega (arith, is.begins, behind)) (line_reached e text place line found is reached) (omega (arith, units.0, units.1, counted, none))

pub missed_in_page : (e : Encoding) (text : List ℕ) (place : Place) (line : LineInPage) (found left : ℕ) → IsUtf8 text → IsLineInPage text place.line line
    → IsLastUpTo e (bytes_in line.page.now) (before e (bytes_in line.page.now) line.start + place.unit) (line.next - 1) found
    → before e (bytes_in line.page.now) found + left ≡ before e (bytes_in line.page.now) line.start + place.unit → 0 < left → IsOffsetOf e text place None
missed_in_page e text place line found left utf8 is reached counted some =
    let at = line.page.now.before.bytes in
    let units = line_units e text place line found is (omega (arith, reached.upto, is.lies.within)) in
    offset_missed e text place (at + (line.next - 1)) (at + found) utf8 is.more (line_last text place.line line is) (line_reached e text place line found is reached) (omega (arith, units.0, units.1, counted, some))

-- a line whose break ends in a page and that starts there lies in it
pub line_lies : (text : List ℕ) (number row : ℕ) (line : LineInPage) → IsUtf8 text → TellsText text line.page.now → number ≡ line.page.now.before.rows + row
    → line.page.now.before.bytes + line.start ≡ starts_at text number → IsRowEnd (bytes_in line.page.now) (row + 1) line.next
    → line.limit ≡ line.next - cond (ends_pair (bytes_in line.page.now) line.next) 2 1 → line.limit < line.next → row < length (breaks_of (bytes_in line.page.now)) → IsLineInPage text number line
line_lies text number row line utf8 tells is begins end limit lt within =
    let page = line.page.now in
    let last : page.before.rows + (row + 1) - 1 ≡ number = omega (arith, is) in
    let next : page.before.rows + (row + 1) ≡ number + 1 = omega (arith, is) in
    let more : number < length (breaks_of text) = omega (arith, is, within, tells.few_rows) in
    let ends : page.before.bytes + line.limit ≡ line_end text number =
    ap (λ n. page.before.bytes + n) limit ∙ tells.ends (row + 1) line.next (omega arith) end ∙ ap (line_end text) last in
    record {
      lies = record {
        ordered = omega (arith, begins, ends, start_to_end text number utf8 (omega (arith, more)));
        break = lt;
        within = end.within;
        fits = tells.fits;
      };
      more = more;
      begins = begins;
      ends = ends;
      behind = tells.starts (row + 1) line.next (omega arith) end ∙ ap (starts_at text) next;
      tells = tells;
    }
