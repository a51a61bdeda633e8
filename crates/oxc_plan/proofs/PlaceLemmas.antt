-- Rows and columns counted in bytes that were read for a span.
use Rattle.std.proofs.Common.{◌≡◌, ℕ, ◌+◌, ◌-◌, ◌<◌, ◌≤◌, ◌⊎◌, ◌&&◌, ◌||◌, not, true, false, List, length, get_or, take, drop, slice_range, min, sym, ap, ◌∙◌, arith, eqb, ⊎_elim, inl, inr, zero, suc}
use Rattle.std.proofs.lemmas.Bool.{cases_Bool, cases_lt}
use Rattle.std.proofs.lemmas.Bool.Decides.{nat_tests}
use Rattle.std.proofs.lemmas.List.{get_or_past, length-take, length-drop}
use Rattle.memchr.specs.Find.{Nowhere, Passes, is_byte2}
use Rattle.oxc_windows.specs.Breaks.{breaks_of, ends_break}
use Rattle.oxc_windows.specs.Rows.{row_of, row_start, settled}
use Rattle.oxc_windows.specs.Window.{window_end}
use Rattle.oxc_windows.proofs.BreaksLemmas.{breaks_valid}
use Rattle.oxc_windows.proofs.ByteRowsLemmas.{number_cases, row_after_end, row_after_other, settled_other, settled_pair, uncut}
use Rattle.oxc_windows.proofs.ListLemmas.{part_at}
use Rattle.oxc_windows.proofs.RowsLemmas.{row_at_start, row_le}
use Rattle.oxc_windows.proofs.WindowLemmas.{window_reaches}
use Rattle.oxc_windows.specs.Scan.{Contents, contents_of}
use Rattle.oxc_span.specs.declared.span.Span.{Span}
use Rattle.oxc_plan.specs.Groups.{window_round}

-- the bytes of a part of a source that reaches past a place, or to the source's end
byte_within : (bytes : List ℕ) (begin end at : ℕ) → begin ≤ at → (at < end) ⊎ (end ≡ length bytes) → get_or (slice_range bytes begin end) (at - begin) 0 ≡ get_or bytes at 0
byte_within bytes begin end at from known =
    ⊎_elim
    (λ lt. part_at bytes begin end at from lt)
    (λ (ge : end ≤ at). ⊎_elim (λ lt. absurd (omega (arith, lt, ge)))
    (λ (all : end ≡ length bytes).
    let short : length (take (end - begin) (drop begin bytes)) ≤ at - begin = rw length-take (omega (arith, ge)) in
    get_or_past (take (end - begin) (drop begin bytes)) (at - begin) 0 short ∙ sym (get_or_past bytes at 0 (omega (arith, ge, all)))) known)
    (cases_lt at end)

-- bytes that were read for a span, from where a row begins
pub record IsReadFor (source : List ℕ) (span : Span) (part : List ℕ) (from row : ℕ) : Type 0 where
  pub bytes : part ≡ slice_range source from (window_end (length source) (breaks_of source) 1 span.end)
  pub begin : from ≡ row_start (length source) (breaks_of source) row
  pub line : row ≡ row_of (breaks_of source) from
  pub within : span.end ≤ length source

pub read_for : (source : List ℕ) (span : Span) (contents : Contents) (bytes : List ℕ) (place : Span) (line : ℕ) → contents ≡ contents_of source (window_round source span)
    → bytes ≡ contents.bytes → place ≡ contents.span → line ≡ contents.line → span.end ≤ length source → IsReadFor source span bytes place.start line
read_for source span contents bytes place line known is_bytes is_place is_line within =
    let len = length source in
    let list = breaks_of source in
    let r = row_of list span.start - 1 in
    let begins : place.start ≡ row_start len list r = ap (λ s. s.start) is_place ∙ ap (λ v. v.span.start) known in
    let counts : line ≡ r = is_line ∙ ap (λ v. v.line) known in
    let few : r ≤ length list = omega (arith, row_le list span.start) in
    record {
      bytes = is_bytes ∙ ap (λ v. v.bytes) known ∙ ap (λ b. slice_range source b (window_end len list 1 span.end)) (sym begins);
      begin = begins ∙ ap (row_start len list) (sym counts);
      line = counts ∙ sym (row_at_start len list r (breaks_valid source).ordered few) ∙ ap (row_of list) (sym begins);
      within = within;
    }

-- a byte of the source up to the span's end
read_byte : (source : List ℕ) (span : Span) (bytes : List ℕ) (begin line at : ℕ) → IsReadFor source span bytes begin line → begin ≤ at → at ≤ span.end
    → get_or bytes (at - begin) 0 ≡ get_or source at 0
read_byte source span bytes begin line at is from upto =
    let len = length source in
    let list = breaks_of source in
    let end = window_end len list 1 span.end in
    let known : (at < end) ⊎ (end ≡ len) = ⊎_elim (λ lt. inl (omega (arith, lt, upto))) (λ all. inr all) (window_reaches len list span.end (breaks_valid source) is.within) in
    ap (λ l. get_or l (at - begin) 0) is.bytes ∙ byte_within source begin end at from known

pub read_len : (source : List ℕ) (span : Span) (bytes : List ℕ) (begin line at : ℕ) → IsReadFor source span bytes begin line → begin ≤ at → at ≤ span.end
    → at ≤ begin + length bytes
read_len source span bytes begin line at is from upto =
    let len = length source in
    let list = breaks_of source in
    let end = window_end len list 1 span.end in
    let size : length bytes ≡ min (end - begin) (length source - begin) = ap length is.bytes ∙ length-take (end - begin) (drop begin source) ∙ ap (min (end - begin)) (length-drop begin source) in
    let reach : span.end ≤ end = ⊎_elim (λ lt. omega (arith, lt)) (λ (all : end ≡ len). omega (arith, all, is.within)) (window_reaches len list span.end (breaks_valid source) is.within) in
    omega (arith, size, reach, is.within)

read_ends : (source : List ℕ) (span : Span) (bytes : List ℕ) (begin line at : ℕ) → IsReadFor source span bytes begin line → begin ≤ at → at < span.end
    → ends_break bytes (at - begin) ≡ ends_break source at
read_ends source span bytes begin line at is from lt =
    let here = read_byte source span bytes begin line at is from (omega (arith, lt)) in
    let next = read_byte source span bytes begin line (at + 1) is (omega (arith, from)) (omega (arith, lt)) in
    let place : at - begin + 1 ≡ at + 1 - begin = omega (arith, from) in
    let after : get_or bytes (at - begin + 1) 0 ≡ get_or source (at + 1) 0 = ap (λ k. get_or bytes k 0) place ∙ next in
    ap (λ a. eqb a 10 || eqb a 13 && not (eqb (get_or bytes (at - begin + 1) 0) 10)) here ∙ ap (λ b. eqb (get_or source at 0) 10 || eqb (get_or source at 0) 13 && not (eqb b 10)) after

-- one place further, by what the byte there says
pub read_after_end : (source : List ℕ) (span : Span) (bytes : List ℕ) (begin line at : ℕ) → IsReadFor source span bytes begin line → begin ≤ at → at < span.end → ends_break bytes (at - begin) ≡ true
    → (row_of (breaks_of source) (at + 1) ≡ row_of (breaks_of source) at + 1) × (row_start (length source) (breaks_of source) (row_of (breaks_of source) at + 1) ≡ at + 1)
read_after_end source span bytes begin line at is from lt said =
    row_after_end source at (omega (arith, lt, is.within)) (sym (read_ends source span bytes begin line at is from lt) ∙ said)

pub read_after_other : (source : List ℕ) (span : Span) (bytes : List ℕ) (begin line at : ℕ) → IsReadFor source span bytes begin line → begin ≤ at → at < span.end → ends_break bytes (at - begin) ≡ false
    → row_of (breaks_of source) (at + 1) ≡ row_of (breaks_of source) at
read_after_other source span bytes begin line at is from lt said =
    row_after_other source at (sym (read_ends source span bytes begin line at is from lt) ∙ said)

-- a byte that is neither LF nor CR ends no break
no_end : (a b : ℕ) → ¬ ((eqb a 10 || eqb a 13) ≡ true) → (eqb a 10 || eqb a 13 && not (eqb b 10)) ≡ false
no_end a b other = elim (cases_Bool (eqb a 10 || eqb a 13)) [ inl said ↦ absurd (other said) | inr not_said ↦ grind (arith, nat_tests) ]

-- no break ends before the next LF or CR
pub read_to_next : (source : List ℕ) (span : Span) (bytes : List ℕ) (begin line at to stop : ℕ) → IsReadFor source span bytes begin line → at + stop ≤ to → begin + at + stop ≤ span.end
    → Nowhere (Passes (is_byte2 10 13) (slice_range bytes at to)) 0 stop → row_of (breaks_of source) (begin + at + stop) ≡ row_of (breaks_of source) (begin + at)
read_to_next source span bytes begin line at to zero is part within none = ap (row_of (breaks_of source)) (omega arith)
read_to_next source span bytes begin line at to (suc n) is part within none =
    let list = breaks_of source in
    let next : begin + at + suc n ≡ begin + at + n + 1 = omega arith in
    let place : begin + at + n - begin ≡ at + n = omega arith in
    let byte : get_or (slice_range bytes at to) n 0 ≡ get_or bytes (at + n) 0 =
    ap (λ k. get_or (slice_range bytes at to) k 0) (let back : n ≡ at + n - at = omega arith in back) ∙ part_at bytes at to (at + n) (omega arith) (omega (arith, part)) in
    let other : ¬ ((eqb (get_or bytes (at + n) 0) 10 || eqb (get_or bytes (at + n) 0) 13) ≡ true) =
    λ said. none n (omega arith) (omega arith) (ap (λ b. eqb b 10 || eqb b 13) byte ∙ said) in
    let no : ends_break bytes (begin + at + n - begin) ≡ false = ap (ends_break bytes) place ∙ no_end (get_or bytes (at + n) 0) (get_or bytes (at + n + 1) 0) other in
    ap (row_of list) next
    ∙ read_after_other source span bytes begin line (begin + at + n) is (omega arith) (omega (arith, within)) no
    ∙ read_to_next source span bytes begin line at to n is (omega (arith, part)) (omega (arith, within)) (λ k low high. none k low (omega (arith, high)))

pub read_settled : (source : List ℕ) (span : Span) (bytes : List ℕ) (begin line at counted : ℕ) → IsReadFor source span bytes begin line → begin ≤ at → at ≤ span.end
    → (0 < at - begin → get_or bytes (at - begin - 1) 0 ≡ 13 → get_or bytes (at - begin) 0 ≡ 10 → counted ≡ at - 1)
    → ((0 < at - begin → get_or bytes (at - begin - 1) 0 ≡ 13 → get_or bytes (at - begin) 0 ≡ 10 → ⊥) → counted ≡ at)
    → counted ≡ settled (breaks_of source) at
read_settled source span bytes begin line at counted is from upto pair other =
    let here = read_byte source span bytes begin line at is from upto in
    let before : begin < at → get_or bytes (at - begin - 1) 0 ≡ get_or source (at - 1) 0 =
    λ some. let place : at - begin - 1 ≡ at - 1 - begin = omega (arith, some) in
    ap (λ k. get_or bytes k 0) place ∙ read_byte source span bytes begin line (at - 1) is (omega (arith, some)) (omega (arith, upto)) in
    let inside : get_or source at 0 ≡ 10 → at < length source =
    λ lf. ⊎_elim (λ lt. lt) (λ ge. absurd (omega (arith, lf, get_or_past source at 0 ge))) (cases_lt at (length source)) in
    let none : (begin < at → get_or source (at - 1) 0 ≡ 13 → get_or source at 0 ≡ 10 → ⊥) → counted ≡ settled (breaks_of source) at =
    λ no_pair. other (λ some cr lf. no_pair (omega (arith, some)) (sym (before (omega (arith, some))) ∙ cr) (sym here ∙ lf))
    ∙ sym (settled_other source at (λ some cr lf.
    ⊎_elim (λ lt. no_pair lt cr lf)
    (λ ge.
    let same : begin ≡ at = omega (arith, ge, from) in
    uncut source begin line is.begin is.line (omega (arith, some, same)) (omega (arith, inside lf, same)) (ap (λ k. get_or source (k - 1) 0) same ∙ cr) (ap (λ k. get_or source k 0) same ∙ lf))
    (cases_lt begin at))) in
    ⊎_elim
    (λ some. ⊎_elim
    (λ cr. ⊎_elim
    (λ lf. pair (omega (arith, some)) (before some ∙ cr) (here ∙ lf) ∙ sym (settled_pair source at (omega (arith, some)) (inside lf) cr lf))
    (λ no_lf. none (λ _ _ lf. no_lf lf)) (number_cases (get_or source at 0) 10))
    (λ no_cr. none (λ _ cr _. no_cr cr)) (number_cases (get_or source (at - 1) 0) 13))
    (λ ge. none (λ lt _ _. omega (arith, lt, ge)))
    (cases_lt begin at)
