-- Marking the characters past ASCII of a line.
use Rattle.std.proofs.Common.{◌≡◌, ℕ, ◌+◌, ◌-◌, ◌≤◌, ◌<◌, true, false, not, cond, ltb, leb, List, [], ◌∷◌, ◌++◌, length, take, drop, get_or, refl, sym, ap, subst, ◌∙◌, arith, ⊎_elim, slice_range, Some, None, position}
use Rattle.std.specs.Char.{len_utf8}
use Rattle.std.specs.List.{position_or_len}
use Rattle.std.specs.Str.{IsUtf8, IsCharBoundary}
use Rattle.std.specs.Str.Pattern.{HasCharAt}
use Rattle.std.proofs.lemmas.Bool.{not-true, cases_lt, cases_eq}
use Rattle.std.proofs.lemmas.Bool.Decides.{nat_tests}
use Rattle.std.proofs.lemmas.List.{length-take, length-drop, length-append, get_or-take, get_or-drop, take_at}
use Rattle.std.proofs.lemmas.List.Elements.{All-push}
use Rattle.std.proofs.lemmas.List.Quantifiers.{all_pairs_push, position-Some}
use Rattle.std.proofs.lemmas.List.Sums.{prefix_len_passes}
use Rattle.std.proofs.lemmas.Str.{length-encode, len_utf8_bounds}
use Rattle.std.proofs.Math.ListN.{get_or-append}
use Rattle.std.proofs.Math.Seq.{get_or-append_seam}
use lib.Utf8.{encode}
use Rattle.utf16_places.specs.Units.{units_of, utf16_units}
use Rattle.utf16_places.specs.Bytes.{bytes_by, units_by, IsPastAsciiAt}
use Rattle.text_places.specs.Places.{line_start_of}
use Rattle.utf16_places.specs.declared.wide.WideCharacter.{WideCharacter}
use Rattle.utf16_places.specs.Index.{IsWideIn, AreWideBefore}
use Rattle.utf16_places.proofs.UnitsLemmas.{begun, begun-encode, before, before-between, units-between, units-le-between, scalar_low}
use Rattle.utf16_places.proofs.CharacterLemmas.{character_at, byte_of, encode_first}
use Rattle.utf16_places.proofs.WideLemmas.{IsWideSpan, wide_span, past_span, plain}
use Rattle.base_lemmas.proofs.Lists.{slice_range-rest as rest_is}

-- a byte of a part
pub slice_byte : (bytes : List ℕ) (from to k : ℕ) → from + k < to → get_or (slice_range bytes from to) k 0 ≡ get_or bytes (from + k) 0
slice_byte bytes from to k h = get_or-take (to - from) (drop from bytes) k 0 (omega (arith, h)) ∙ get_or-drop from bytes k 0

-- one block of ASCII more
pub block_more : (bytes : List ℕ) (passed n : ℕ) → ((k : ℕ) → k < passed → get_or bytes k 0 < 128) → ((k : ℕ) → get_or (slice_range bytes passed (passed + n)) k 0 < 128)
    → (k : ℕ) → k < passed + n → get_or bytes k 0 < 128
block_more bytes passed n earlier here k h =
    ⊎_elim (λ lt. earlier k lt)
    (λ ge.
    let place : passed + (k - passed) ≡ k = omega arith in
    omega (arith, here (k - passed), slice_byte bytes passed (passed + n) (k - passed) (omega (arith, h, ge)), ap (λ i. get_or bytes i 0) place))
    (cases_lt k passed)

high_byte : (byte : ℕ) → leb 128 byte ≡ true → 128 ≤ byte
high_byte byte e = grind (arith, nat_tests)

low_byte : (byte : ℕ) → leb 128 byte ≡ false → byte < 128
low_byte byte e = grind (arith, nat_tests)

pub past_found : (bytes : List ℕ) (passed at : ℕ) → passed ≤ length bytes → ((k : ℕ) → k < passed → get_or bytes k 0 < 128) → position (λ byte. leb 128 byte) (slice_range bytes passed (length bytes)) ≡ Some at
    → IsPastAsciiAt bytes (passed + at)
past_found bytes passed at le earlier e =
    let found = position-Some (λ byte. leb 128 byte) (drop passed bytes) at 0 (ap (position (λ byte. leb 128 byte)) (sym (rest_is bytes passed)) ∙ e) in
    record {
      within = omega (arith, found.0, length-drop passed bytes);
      past = omega (arith, high_byte _ found.1, get_or-drop passed bytes at 0);
      first = λ k h. ⊎_elim (λ lt. earlier k lt)
          (λ ge.
          let place : passed + (k - passed) ≡ k = omega arith in
          omega (arith, low_byte _ (found.2 (k - passed) (omega arith)), get_or-drop passed bytes (k - passed) 0, ap (λ i. get_or bytes i 0) place))
          (cases_lt k passed);
    }

nowhere_long : (n m : ℕ) → cond (ltb n m) (Some n) None ≡ None → m ≤ n
nowhere_long n m e = grind (arith, nat_tests)

pub past_missing : (bytes : List ℕ) (passed : ℕ) → passed ≤ length bytes → ((k : ℕ) → k < passed → get_or bytes k 0 < 128) → position (λ byte. leb 128 byte) (slice_range bytes passed (length bytes)) ≡ None
    → (k : ℕ) → k < length bytes → get_or bytes k 0 < 128
past_missing bytes passed le earlier e k h =
    ⊎_elim (λ lt. earlier k lt)
    (λ ge.
    let place : passed + (k - passed) ≡ k = omega arith in
    let long = nowhere_long (position_or_len (λ byte. leb 128 byte) (drop passed bytes)) (length (drop passed bytes)) (ap (position (λ byte. leb 128 byte)) (sym (rest_is bytes passed)) ∙ e) in
    let fails = prefix_len_passes (λ byte. not (leb 128 byte)) (drop passed bytes) (k - passed) 0 (omega (arith, long, h, ge, length-drop passed bytes)) in
    omega (arith, low_byte _ (not-true _ fails), get_or-drop passed bytes (k - passed) 0, ap (λ i. get_or bytes i 0) place))
    (cases_lt k passed)

-- a character's units
before-character : (text : List ℕ) (c p : ℕ) → c < 1114112 → HasCharAt c text p (p + len_utf8 c) → before text (p + len_utf8 c) ≡ before text p + units_of c
before-character text c p low at =
    let gap : p + len_utf8 c - p ≡ len_utf8 c = omega arith in
    let bytes : slice_range text p (p + len_utf8 c) ≡ encode c =
    ap (λ n. take n (drop p text)) gap ∙ ap (take (len_utf8 c)) at.split ∙ take_at (encode c) (drop (p + len_utf8 c) text) (len_utf8 c) (length-encode c) in
    before-between text p (p + len_utf8 c) (omega arith) ∙ ap (λ l. before text p + begun l) bytes ∙ ap (λ n. before text p + n) (begun-encode c low)

-- what is known of a line while its characters are marked
pub record IsMarking (text : List ℕ) (start at end unit : ℕ) (wide : List WideCharacter) : Type 0 where
  pub utf8 : IsUtf8 text
  pub begin : IsCharBoundary text start
  pub limit : IsCharBoundary text end
  pub line : (place : ℕ) → start ≤ place → place < end → line_start_of text place ≡ start
  pub from : start ≤ at
  pub up_to : at ≤ end
  pub boundary : IsCharBoundary text at
  pub units : unit + before text start ≡ before text at
  pub marked : AreWideBefore text at wide

-- the next character past ASCII
pub record IsNextMark (text : List ℕ) (start at end unit : ℕ) (wide : List WideCharacter) (place behind next : ℕ) : Type 0 where
  pub up_to : behind ≤ end
  pub boundary : IsCharBoundary text behind
  pub units : next + before text start ≡ before text behind
  pub few : next ≤ behind
  pub marked : AreWideBefore text behind (wide ++ record { start = place; end = behind; unit = next } ∷ [])

pub next_mark : (text : List ℕ) (start at end unit skipped : ℕ) (wide : List WideCharacter) → IsMarking text start at end unit wide → IsPastAsciiAt (slice_range text at end) skipped
    → IsNextMark text start at end unit wide (at + skipped) (at + skipped + bytes_by (get_or text (at + skipped) 0)) (unit + (skipped + units_by (get_or text (at + skipped) 0)))
next_mark text start at end unit skipped wide marking found =
    let p = at + skipped in
    let behind = p + bytes_by (get_or text p 0) in
    let next = unit + (skipped + units_by (get_or text p 0)) in
    let within : p < end = omega (arith, found.within, length-take (end - at) (drop at text)) in
    let inside : end ≤ length text = marking.limit.0 in
    let low : (q : ℕ) → at ≤ q → q < p → get_or text q 0 < 128 = λ q ge lt.
    let place : at + (q - at) ≡ q = omega arith in
    omega (arith, found.first (q - at) (omega arith), slice_byte text at end (q - at) (omega (arith, within, lt, ge)), ap (λ i. get_or text i 0) place) in
    let step = plain text at p marking.utf8 marking.boundary (omega (arith, within, inside)) (λ q ge lt. omega (arith, low q ge lt)) skipped (omega arith) in
    let high : 128 ≤ get_or text p 0 = omega (arith, found.past, slice_byte text at end skipped within) in
    let lead : 192 ≤ get_or text p 0 = step.0.1 (omega (arith, within, inside)) high in
    let here = character_at text p marking.utf8 step.0 (omega (arith, within, inside)) in
    let c = here.character in
    let past : 128 ≤ c = ⊎_elim (λ ascii. absurd (omega (arith, here.stands.byte ascii, high, ascii))) (λ ge. ge) (cases_lt c 128) in
    let none : p + 0 ≡ p = omega arith in
    let first : get_or text p 0 ≡ get_or (encode c) 0 0 = ap (λ i. get_or text i 0) (sym none) ∙ byte_of text c p (p + len_utf8 c) 0 here.stands (omega (arith, (len_utf8_bounds c).0)) in
    let tells = encode_first c (scalar_low c here.scalar) past in
    let place : p + len_utf8 c ≡ behind = ap (λ n. p + n) (tells.1 ∙ ap bytes_by (sym first)) in
    let stands : HasCharAt c text p behind = subst (λ j. HasCharAt c text p j) place here.stands in
    let span = wide_span text c p behind here.scalar stands past in
    let ends = past_span text p behind end span marking.limit within in
    let all : next + before text start ≡ before text behind =
    omega (arith, marking.units, step.1, before-character text c p (scalar_low c here.scalar) here.stands, ap (before text) place, tells.2, ap units_by first) in
    let units : next ≡ utf16_units (slice_range text start behind) =
    omega (arith, all, units-between text start behind marking.utf8 marking.begin span.boundary (omega (arith, marking.from, span.some))) in
    let w : WideCharacter = record { start = p; end = behind; unit = next } in
    let is : IsWideIn text w = record {
      character = c;
      scalar = here.scalar;
      stands = stands;
      past_ascii = past;
      unit = units ∙ ap (λ s. utf16_units (slice_range text s behind)) (sym (marking.line p (omega (arith, marking.from)) within));
    } in
    record {
      up_to = ends;
      boundary = span.boundary;
      units = all;
      few = omega (arith, units, units-le-between text start behind marking.utf8 marking.begin span.boundary (omega (arith, marking.from, span.some)));
      marked = record {
        there = All-push (λ v. IsWideIn text v) wide w marking.marked.there is;
        before = All-push (λ (v : WideCharacter). v.start < behind) wide w (λ k d h. omega (arith, marking.marked.before k d h, span.some)) span.some;
        ascend = all_pairs_push (λ (a b : WideCharacter). a.start < b.start) wide w marking.marked.ascend (λ k d h. omega (arith, marking.marked.before k d h));
        complete = λ q upto begins. complete_more text wide w at p behind q marking.marked low span refl upto begins;
      };
    }
  where
    complete_more : (text : List ℕ) (wide : List WideCharacter) (w : WideCharacter) (at p behind q : ℕ) → AreWideBefore text at wide
        → ((q : ℕ) → at ≤ q → q < p → get_or text q 0 < 128) → IsWideSpan text p behind → w.start ≡ p → q < behind → 192 ≤ get_or text q 0
        → (k : ℕ) × (k < length (wide ++ w ∷ [])) × ((d : WideCharacter) → (get_or (wide ++ w ∷ []) k d).start ≡ q)
    complete_more text wide w at p behind q are low span is upto begins =
        ⊎_elim
        (λ old.
        let known = are.complete q old begins in
        (known.0, omega (arith, known.1, length-append wide (w ∷ [])), λ d. ap (λ (v : WideCharacter). v.start) (get_or-append wide (w ∷ []) d known.0 known.1) ∙ known.2 d))
        (λ ge. ⊎_elim (λ same.
        (length wide, omega (arith, length-append wide (w ∷ [])), λ d. ap (λ (v : WideCharacter). v.start) (get_or-append_seam wide w [] d) ∙ is ∙ sym same))
        (λ other. ⊎_elim (λ lt. absurd (omega (arith, low q ge lt, begins))) (λ beyond. absurd (omega (arith, (span.inner q (omega (arith, beyond, other)) upto).1, begins))) (cases_lt q p))
        (cases_eq q p))
        (cases_lt q at)

-- where the rest of the line is ASCII, all are marked
pub all_marked : (text : List ℕ) (start at end unit : ℕ) (wide : List WideCharacter) → IsMarking text start at end unit wide → ((k : ℕ) → k < length (slice_range text at end) → get_or (slice_range text at end) k 0 < 128)
    → AreWideBefore text end wide
all_marked text start at end unit wide marking none = record {
  there = marking.marked.there;
  before = λ k d h. omega (arith, marking.marked.before k d h, marking.up_to);
  ascend = marking.marked.ascend;
  complete = λ q upto begins. ⊎_elim (λ old. marking.marked.complete q old begins)
      (λ ge.
      let place : at + (q - at) ≡ q = omega arith in
      absurd (omega (
        arith,
        none (q - at) (omega (arith, upto, ge, marking.limit.0, length-take (end - at) (drop at text), length-drop at text)),
        slice_byte text at end (q - at) (omega (arith, upto, ge)),
        ap (λ i. get_or text i 0) place,
        begins,
      )))
      (cases_lt q at);
}

-- the same by what the code reads
pub next_read : (text bytes : List ℕ) (start at end unit skipped n u : ℕ) (wide : List WideCharacter) → bytes ≡ text → IsMarking text start at end unit wide → IsPastAsciiAt (slice_range bytes at end) skipped
    → n ≡ bytes_by (get_or bytes (at + skipped) 0) → u ≡ units_by (get_or bytes (at + skipped) 0)
    → IsNextMark text start at end unit wide (at + skipped) (at + skipped + n) (unit + (skipped + u))
next_read text bytes start at end unit skipped n u wide same marking found is_n is_u =
    rw (is_n, is_u, same) (next_mark text start at end unit skipped wide marking (subst (λ b. IsPastAsciiAt (slice_range b at end) skipped) same found))

pub marked_read : (text bytes : List ℕ) (start at end unit : ℕ) (wide : List WideCharacter) → bytes ≡ text → IsMarking text start at end unit wide
    → ((k : ℕ) → k < length (slice_range bytes at end) → get_or (slice_range bytes at end) k 0 < 128) → AreWideBefore text end wide
marked_read text bytes start at end unit wide same marking none =
    all_marked text start at end unit wide marking (subst (λ b. (k : ℕ) → k < length (slice_range b at end) → get_or (slice_range b at end) k 0 < 128) same none)
