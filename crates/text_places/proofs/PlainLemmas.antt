-- Lines of ASCII, by the row ends that pages list.
use Rattle.std.proofs.Common.{◌≡◌, ⊎_elim, ℕ, ◌+◌, ◌-◌, ◌<◌, ◌≤◌, min, true, false, cond, leb, ◌&&◌, ◌==◌, List, length, get_or, sym, ap, subst, ◌∙◌, arith, Some, None}
use Rattle.std.specs.Str.{IsUtf8}
use Rattle.std.proofs.lemmas.Bool.{cases_lt, and_parts, false_from_ne_true, eqb-true, leb-true}
use Rattle.std.proofs.lemmas.Bool.Decides.{nat_tests}
use Rattle.memchr.specs.Find.{is_byte}
use Rattle.source_location.specs.Breaks.{breaks_of}
use Rattle.text_places.specs.Bytes.{before}
use Rattle.text_places.specs.Ends.{IsRowEnd, AreEnds}
use Rattle.text_places.specs.Pages.{bytes_in, TellsText, IsLastUpTo, ends_pair}
use Rattle.text_places.specs.Places.{line_end, IsOffsetOf, IsNearest}
use Rattle.text_places.specs.Plain.{IsPlain, IsEven, IsPlainLine}
use Rattle.text_places.specs.declared.encoding.Encoding.{Encoding}
use Rattle.text_places.specs.declared.page.Page.{Page}
use Rattle.text_places.specs.declared.place.Place.{Place}
use Rattle.text_places.specs.declared.plain.PlainLine.{PlainLine}
use Rattle.text_places.proofs.AnswersLemmas.{nearest_upto, start_to_end}
use Rattle.text_places.proofs.LineLemmas.{starts_at}
use Rattle.text_places.proofs.LinesLemmas.{last_byte, offset_reached, offset_missed}
use Rattle.text_places.proofs.ScanLemmas.{ascii_before}

pub is_cr : (byte : ℕ) → byte ≡ 13 → is_byte 13 byte ≡ true
is_cr byte e = grind (arith, nat_tests)

-- a listed row end, by its number from 1
pub listed_end : (bytes ends : List ℕ) (row : ℕ) → AreEnds bytes ends → 1 ≤ row → row ≤ length ends → IsRowEnd bytes row (get_or ends (row - 1) 0)
listed_end bytes ends row are some within =
    let back : row - 1 + 1 ≡ row = omega arith in
    subst (λ r. IsRowEnd bytes r (get_or ends (row - 1) 0)) back (are.each (row - 1) 0 (omega arith))

-- where no CR stands no CRLF ends
pub no_pair : (bytes : List ℕ) (place : ℕ) → IsPlain bytes → place ≤ length bytes → ends_pair bytes place ≡ false
no_pair bytes place plain within =
    false_from_ne_true (ends_pair bytes place) (λ e.
    let outer = and_parts (leb 2 place && (get_or bytes (place - 1) 0 == 10)) (get_or bytes (place - 2) 0 == 13) e in
    let inner = and_parts (leb 2 place) (get_or bytes (place - 1) 0 == 10) outer.0 in
    plain.no_cr (place - 2) (omega (arith, leb-true 2 place inner.0, within)) (eqb-true (get_or bytes (place - 2) 0) 13 outer.1))

-- in a page of ASCII
pub even_in : (text : List ℕ) (page : Page) → TellsText text page → IsPlain (bytes_in page) → IsEven text page.before.bytes (page.before.bytes + length (bytes_in page))
even_in text page tells plain e o from upto =
    let x = o - page.before.bytes in
    let at : page.before.bytes + x ≡ o = omega arith in
    let zero : page.before.bytes + 0 ≡ page.before.bytes = omega arith in
    omega (
      arith,
      tells.units e x (omega arith),
      ap (before e text) at,
      ascii_before e (bytes_in page) x plain.ascii (omega arith),
      tells.units e 0 (omega arith),
      ap (before e text) zero,
      ascii_before e (bytes_in page) 0 plain.ascii (omega arith),
    )

pub even_part : (text : List ℕ) (a b c d : ℕ) → IsEven text a d → a ≤ b → c ≤ d → IsEven text b c
even_part text a b c d even low high e o from upto = omega (arith, even e o (omega arith) (omega arith), even e b low (omega arith))

pub even_joined : (text : List ℕ) (a b c : ℕ) → IsEven text a b → IsEven text b c → a ≤ b → IsEven text a c
even_joined text a b c first second le e o from upto =
    ⊎_elim (λ lt. first e o from (omega (arith, lt))) (λ ge. omega (arith, first e b le (omega arith), second e o ge upto)) (cases_lt o b)

plain_made : (text : List ℕ) (number : ℕ) (line : PlainLine) → IsUtf8 text → number < length (breaks_of text) → line.start ≡ starts_at text number → line.limit ≡ line_end text number
    → line.limit + 1 ≡ starts_at text (number + 1) → IsEven text line.start (line.limit + 1) → IsPlainLine text number line
plain_made text number line utf8 more begins ends behind even = record {
  more = more;
  begins = begins;
  ends = ends;
  behind = behind;
  ordered = omega (arith, begins, ends, start_to_end text number utf8 (omega (arith, more)));
  even = even;
}

-- where a line ends with a row end of a page
ends_at : (text : List ℕ) (page : Page) (row next limit : ℕ) → TellsText text page → IsPlain (bytes_in page) → 1 ≤ row → IsRowEnd (bytes_in page) row next → limit + 1 ≡ page.before.bytes + next
    → (limit ≡ line_end text (page.before.rows + row - 1)) × (limit + 1 ≡ starts_at text (page.before.rows + row))
ends_at text page row next limit tells plain some end is =
    let one = ap {B = ℕ} (λ t. cond t 2 1) (no_pair (bytes_in page) next plain end.within) in
    (omega (arith, is, tells.ends row next some end, one, end.some), is ∙ tells.starts row next some end)

-- a line between two row ends of a page
pub plain_within : (text : List ℕ) (page : Page) (row start next : ℕ) (line : PlainLine) → IsUtf8 text → TellsText text page → IsPlain (bytes_in page) → 1 ≤ row → row < length (breaks_of (bytes_in page))
    → IsRowEnd (bytes_in page) row start → IsRowEnd (bytes_in page) (row + 1) next → line.start ≡ page.before.bytes + start → line.limit + 1 ≡ page.before.bytes + next
    → IsPlainLine text (page.before.rows + row) line
plain_within text page row start next line utf8 tells plain some more from end begins limit =
    let number = page.before.rows + row in
    let at = ends_at text page (row + 1) next line.limit tells plain (omega arith) end limit in
    let same : page.before.rows + (row + 1) - 1 ≡ number = omega arith in
    let after : page.before.rows + (row + 1) ≡ number + 1 = omega arith in
    plain_made text number line utf8 (omega (arith, more, tells.few_rows)) (begins ∙ tells.starts row start some from) (at.0 ∙ ap (line_end text) same) (at.1 ∙ ap (starts_at text) after)
    (even_part text page.before.bytes line.start (line.limit + 1) (page.before.bytes + length (bytes_in page)) (even_in text page tells plain) (omega (arith, begins)) (omega (arith, limit, end.within)))

-- a line from the last row end of a page to the first of the next
pub plain_across : (text : List ℕ) (page next : Page) (row start end : ℕ) (line : PlainLine) → IsUtf8 text → TellsText text page → TellsText text next → IsPlain (bytes_in page) → IsPlain (bytes_in next) → 1 ≤ row
    → IsRowEnd (bytes_in page) row start → IsRowEnd (bytes_in next) 1 end → 1 ≤ length (breaks_of (bytes_in next)) → next.before.bytes ≡ page.before.bytes + length (bytes_in page) → next.before.rows ≡ page.before.rows + row
    → line.start ≡ page.before.bytes + start → line.limit + 1 ≡ next.before.bytes + end → IsPlainLine text next.before.rows line
plain_across text page next row start end line utf8 tells next_tells plain next_plain some from upto more bytes rows begins limit =
    let number = next.before.rows in
    let at = ends_at text next 1 end line.limit next_tells next_plain (omega arith) upto limit in
    let same : next.before.rows + 1 - 1 ≡ number = omega arith in
    let first : IsEven text page.before.bytes next.before.bytes = subst (λ k. IsEven text page.before.bytes k) (sym bytes) (even_in text page tells plain) in
    let both = even_joined text page.before.bytes next.before.bytes (next.before.bytes + length (bytes_in next)) first (even_in text next next_tells next_plain) (omega (arith, bytes)) in
    plain_made text number line utf8 (omega (arith, more, next_tells.few_rows)) (begins ∙ tells.starts row start some from ∙ ap (starts_at text) (sym rows)) (at.0 ∙ ap (line_end text) same) at.1
    (even_part text page.before.bytes line.start (line.limit + 1) (next.before.bytes + length (bytes_in next)) both (omega (arith, begins)) (omega (arith, limit, upto.within)))

-- as many bytes further as units are asked for, up to where the break begins
pub plain_upto : (e : Encoding) (text : List ℕ) (number unit found : ℕ) (line : PlainLine) → IsPlainLine text number line → found ≡ line.start + min unit (line.limit - line.start)
    → IsLastUpTo e text (before e text (starts_at text number) + unit) line.limit found
plain_upto e text number unit found line is at =
    let begin = ap (before e text) is.begins in
    record {
      upto = omega (arith, at, is.ordered);
      few = omega (arith, begin, is.even e found (omega (arith, at)) (omega (arith, at, is.ordered)), at);
      more = λ lt. omega (arith, begin, is.even e (found + 1) (omega (arith, at)) (omega (arith, lt)), at, lt, is.ordered);
    }

pub plain_nearest : (e : Encoding) (text : List ℕ) (place : Place) (line : PlainLine) (found : ℕ) → IsUtf8 text → IsPlainLine text place.line line → found ≡ line.start + min place.unit (line.limit - line.start)
    → IsNearest e text place found
plain_nearest e text place line found utf8 is at =
    nearest_upto e text place found utf8 (omega (arith, is.more))
    (subst (λ k. IsLastUpTo e text (before e text (starts_at text place.line) + place.unit) k found) is.ends (plain_upto e text place.line place.unit found line is at))

pub plain_found : (e : Encoding) (text : List ℕ) (place : Place) (line : PlainLine) → IsUtf8 text → IsPlainLine text place.line line → place.unit ≤ line.limit - line.start
    → IsOffsetOf e text place (Some (line.start + place.unit))
plain_found e text place line utf8 is few =
    let found = line.start + place.unit in
    let here = plain_upto e text place.line place.unit found line is (omega (arith, few)) in
    let counted : before e text found ≡ before e text (starts_at text place.line) + place.unit =
    omega (arith, ap (before e text) is.begins, is.even e found (omega arith) (omega (arith, few, is.ordered))) in
    offset_reached e text place line.limit found utf8 is.more is.behind (last_byte text place.line line.limit is.more is.behind) (omega (arith, is.begins)) here counted

pub plain_missed : (e : Encoding) (text : List ℕ) (place : Place) (line : PlainLine) → IsUtf8 text → IsPlainLine text place.line line → line.limit - line.start < place.unit → IsOffsetOf e text place None
plain_missed e text place line utf8 is many =
    let here = plain_upto e text place.line place.unit line.limit line is (omega (arith, many, is.ordered)) in
    let fewer : before e text line.limit < before e text (starts_at text place.line) + place.unit =
    omega (arith, ap (before e text) is.begins, is.even e line.limit is.ordered (omega arith), many) in
    offset_missed e text place line.limit line.limit utf8 is.more is.behind here fewer
