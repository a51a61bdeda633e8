-- Columns in a text whose front is of ASCII: those of the pen over its bytes.
use Rattle.std.proofs.Common.{◌≡◌, ℕ, ◌+◌, ◌<◌, ◌≤◌, Bool, true, false, ◌||◌, List, length, take, get_or, min, sym, ap, subst, ◌∙◌, arith, eqb, ltb, slice_range, ⊎_elim}
use Rattle.std.specs.Prelude.{All}
use Rattle.std.specs.Int.{from_bool}
use Rattle.std.specs.Str.{IsAscii, IsCharBoundary, IsUtf8}
use Rattle.std.proofs.lemmas.Bool.{cases_lt, le-ltb, lt-ltb}
use Rattle.std.proofs.lemmas.Bool.Decides.{nat_tests}
use Rattle.std.proofs.lemmas.List.{length-take, take-take, take_all}
use Rattle.std.proofs.lemmas.List.Elements.{All-take}
use Rattle.std.proofs.lemmas.Str.{IsCharBoundary-from_take, IsUtf8-from_ascii}
use Rattle.std.proofs.lemmas.Str.Ascii.{IsAscii-from_all}
use Rattle.oxc_plan.specs.declared.columns.Pen.{Pen}
use Rattle.oxc_plan.specs.Columns.{column_in}
use Rattle.oxc_plan.specs.Width.{at_margin, pen_after}
use Rattle.oxc_plan.proofs.AsciiLemmas.{pen_further, pen_plain, take_ascii, width_ascii}
use Rattle.oxc_plan.proofs.BoundaryLemmas.{down_is, up_is}

-- a text may be cut behind a front of ASCII
cut_behind : (text : List ℕ) (at : ℕ) → IsUtf8 text → at ≤ length text → IsAscii (take at text) → IsCharBoundary text at
cut_behind text at utf8 within ascii = IsCharBoundary-from_take text at utf8 within (IsUtf8-from_ascii (take at text) ascii)

-- the column of an offset behind such a front, and of one past a text of ASCII
column_within : (tab : ℕ) (text : List ℕ) (at : ℕ) (at_start : Bool) → IsUtf8 text → at ≤ length text → IsAscii (take at text) → (pen_after tab at_margin (take at text)).column ≡ column_in tab text at at_start
unfolding column_in
column_within tab text at true utf8 within ascii =
    let here = cut_behind text at utf8 within ascii in
    rw (le-ltb (length text) at within, down_is text at at (omega arith) within here (λ i low high. absurd (omega arith))) (width_ascii tab (take at text) ascii)
column_within tab text at false utf8 within ascii =
    let here = cut_behind text at utf8 within ascii in
    rw (le-ltb (length text) at within, up_is text at at (omega arith) within here (λ i low high. absurd (omega arith))) (width_ascii tab (take at text) ascii)

column_beyond : (tab : ℕ) (text : List ℕ) (at : ℕ) (at_start : Bool) → length text < at → IsAscii text → (pen_after tab at_margin text).column + 1 ≡ column_in tab text at at_start
unfolding column_in
column_beyond tab text at at_start past ascii = rw (lt-ltb (length text) at past) (ap (λ n. n + 1) (width_ascii tab text ascii))

-- the column of any offset, from the pen there or at the text's end
column_front : (tab : ℕ) (text : List ℕ) (at cut more : ℕ) (pen : Pen) (at_start : Bool) → IsUtf8 text → IsAscii (take cut text) → cut ≡ min at (length text)
    → pen ≡ pen_after tab at_margin (take cut text) → more ≡ from_bool (ltb cut at) → pen.column + more ≡ column_in tab text at at_start
column_front tab text at cut more pen at_start utf8 ascii is pen_is more_is =
    let column : pen.column ≡ (pen_after tab at_margin (take cut text)).column = ap (λ (p : Pen). p.column) pen_is in
    ⊎_elim
    (λ (beyond : length text < at).
    let all : take cut text ≡ text = take_all cut text (omega (arith, is, beyond)) in
    let one : more ≡ 1 = more_is ∙ ap from_bool (lt-ltb cut at (omega (arith, is, beyond))) in
    let last = column_beyond tab text at at_start beyond (subst IsAscii all ascii) in
    omega (arith, column, ap (λ bytes. (pen_after tab at_margin bytes).column) all, last, one))
    (λ (within : at ≤ length text).
    let same : cut ≡ at = omega (arith, is, within) in
    let none : more ≡ 0 = more_is ∙ ap from_bool (le-ltb cut at (omega (arith, same))) in
    let here = column_within tab text at at_start utf8 within (subst (λ n. IsAscii (take n text)) same ascii) in
    omega (arith, column, ap (λ n. (pen_after tab at_margin (take n text)).column) same, here, none))
    (cases_lt (length text) at)

-- the bytes of a text before an offset that may lie past it
pub front_taken : (text : List ℕ) (end cut : ℕ) → cut ≡ min end (length text) → take cut text ≡ take end text
front_taken text end cut is =
    ⊎_elim
    (λ (past : length text < end). take_all cut text (omega (arith, is, past)) ∙ sym (take_all end text (omega (arith, past))))
    (λ (within : end ≤ length text). let same : cut ≡ end = omega (arith, is, within) in ap (λ n. take n text) same)
    (cases_lt (length text) end)

-- the column of a start by the pen over the front before it, and that of an end by the pen over all of the front
pub front_start : (tab : ℕ) (text front : List ℕ) (start end cut before more : ℕ) (pen : Pen) → IsUtf8 text → IsAscii front → front ≡ take cut text → cut ≡ min end (length text) → start ≤ end
    → before ≡ min start (length front) → pen ≡ pen_after tab at_margin (take before front) → more ≡ from_bool (ltb before start) → pen.column + more ≡ column_in tab text start true
front_start tab text front start end cut before more pen utf8 ascii front_is cut_is le before_is pen_is more_is =
    let size : length front ≡ min cut (length text) = ap length front_is ∙ length-take cut text in
    let short : before ≤ cut = omega (arith, before_is, size) in
    let same : take before front ≡ take before text = ap (take before) front_is ∙ take-take before cut text short in
    column_front tab text start before more pen true utf8 (subst IsAscii same (take_ascii front before ascii)) (omega (arith, before_is, size, cut_is, le)) (pen_is ∙ ap (pen_after tab at_margin) same) more_is

pub front_end : (tab : ℕ) (text front : List ℕ) (end cut before more : ℕ) (pen last : Pen) → IsUtf8 text → IsAscii front → front ≡ take cut text → cut ≡ min end (length text)
    → before ≤ length front → pen ≡ pen_after tab at_margin (take before front) → last ≡ pen_after tab pen (slice_range front before (length front)) → more ≡ from_bool (ltb (length front) end)
    → last.column + more ≡ column_in tab text end false
front_end tab text front end cut before more pen last utf8 ascii front_is cut_is within pen_is last_is more_is =
    let size : length front ≡ cut = ap length front_is ∙ length-take cut text ∙ omega (arith, cut_is) in
    let all : last ≡ pen_after tab at_margin front =
    last_is ∙ ap (λ p. pen_after tab p (slice_range front before (length front))) pen_is
    ∙ pen_further tab at_margin front before (length front) within ∙ ap (pen_after tab at_margin) (take_all (length front) front (omega arith)) in
    column_front tab text end cut more last false utf8 (subst IsAscii front_is ascii) cut_is (all ∙ ap (pen_after tab at_margin) front_is) (more_is ∙ ap (λ n. from_bool (ltb n end)) size)

-- characters of ASCII that take a column each are no tabs and begin no escape
plain_byte : (b : ℕ) → 0x20 ≤ b → b ≤ 0x7E → (eqb b 0x09 || eqb b 0x1B) ≡ false
plain_byte b low high = grind (arith, nat_tests)

-- in a front of them, each offset is its own column
pub column_printable : (tab : ℕ) (text : List ℕ) (at end : ℕ) (at_start : Bool) → IsUtf8 text → at ≤ end → end ≤ length text → All (λ byte. (0x20 ≤ byte) × (byte ≤ 0x7E)) (take end text)
    → at ≡ column_in tab text at at_start
column_printable tab text at end at_start utf8 le within all =
    let front : take at (take end text) ≡ take at text = take-take at end text le in
    let printable : All (λ byte. (0x20 ≤ byte) × (byte ≤ 0x7E)) (take at text) =
    subst (All (λ byte. (0x20 ≤ byte) × (byte ≤ 0x7E))) front (All-take (λ byte. (0x20 ≤ byte) × (byte ≤ 0x7E)) at (take end text) all) in
    let ascii : IsAscii (take at text) = IsAscii-from_all (take at text) (λ k d lt. omega (arith, (printable k d lt).1)) in
    let plain : All (λ byte. (eqb byte 0x09 || eqb byte 0x1B) ≡ false) (take at text) =
    λ k d lt. plain_byte (get_or (take at text) k d) (printable k d lt).0 (printable k d lt).1 in
    let size : length (take at text) ≡ at = length-take at text ∙ omega (arith, le, within) in
    omega (arith, ap (λ (p : Pen). p.column) (pen_plain tab 0 (take at text) plain), size, column_within tab text at at_start utf8 (omega (arith, le, within)) ascii)
