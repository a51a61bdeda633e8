-- Counts of units, by the bytes that begin characters.
use Rattle.std.proofs.Common.{◌≡◌, ℕ, ◌+◌, ◌-◌, ◌≤◌, ◌<◌, true, cond, ltb, List, [], ◌∷◌, ◌++◌, length, take, drop, get_or, refl, sym, ap, ◌∙◌, arith, slice_range, sum_by}
use Rattle.std.specs.Str.{chars, IsUtf8, IsCharBoundary}
use Rattle.std.proofs.lemmas.Bool.Decides.{nat_tests}
use Rattle.std.proofs.lemmas.List.{length-append, length-take}
use Rattle.std.proofs.lemmas.List.Sums.{sum_by-append, sum_by_more, sum_by-cons}
use Rattle.std.proofs.lemmas.Str.{encodes-chars, scalars-chars, IsUtf8-between}
use Rattle.std.proofs.lemmas.Bool.{and_parts}
use Rattle.std.proofs.lemmas.Str.{length-encode}
use Rattle.std.specs.Char.{len_utf8}
use Rattle.std.proofs.Math.Seq.{take-add}
use lib.Utf8.{scalar, scalars, encode, encodes}
pub use Rattle.text_places.proofs.UnitsLemmas.{scalar_low}
use Rattle.utf16_places.specs.Units.{units_of, utf16_units}

-- the units of the character that begins with a byte, and none where no character begins with it
abbrev pub units_begun : ℕ → ℕ
units_begun byte = cond (ltb byte 128) 1 (cond (ltb byte 192) 0 (cond (ltb byte 240) 1 2))

unfoldable pub begun : List ℕ → ℕ
begun bytes = sum_by units_begun bytes

-- the units of the characters that begin before a place
abbrev pub before : List ℕ → ℕ → ℕ
before text place = begun (take place text)

pub begun-append : (xs ys : List ℕ) → begun (xs ++ ys) ≡ begun xs + begun ys
unfolding begun
begun-append xs ys = sum_by-append units_begun xs ys

pub begun-nil : begun [] ≡ 0
unfolding begun
begun-nil = refl

pub begun-encode : (c : ℕ) → c < 1114112 → begun (encode c) ≡ units_of c
unfolding begun encode
begun-encode c low = grind (arith, nat_tests)

begun-encodes : (cs : List ℕ) → scalars cs ≡ true → begun (encodes cs) ≡ sum_by units_of cs
begun-encodes [] is = begun-nil
begun-encodes (c ∷ cs) is =
    let parts = and_parts (scalar c) (scalars cs) is in
    omega (arith, begun-append (encode c) (encodes cs), begun-encode c (scalar_low c parts.0), begun-encodes cs parts.1, sum_by-cons units_of c cs)

-- of a text they are its units
pub units-begun : (bytes : List ℕ) → IsUtf8 bytes → utf16_units bytes ≡ begun bytes
unfolding utf16_units
units-begun bytes utf8 = sym (begun-encodes (chars bytes) (scalars-chars bytes utf8)) ∙ ap begun (encodes-chars bytes utf8)

few_units : (c : ℕ) → units_of c ≤ len_utf8 c
few_units c = grind (arith, nat_tests)

units_of-le : (cs : List ℕ) → sum_by units_of cs ≤ length (encodes cs)
units_of-le [] = omega arith
units_of-le (c ∷ cs) =
    omega (arith, sum_by-cons units_of c cs, units_of-le cs, length-append (encode c) (encodes cs), length-encode c, few_units c)

-- a text has no more units than bytes
pub units-le-length : (bytes : List ℕ) → IsUtf8 bytes → utf16_units bytes ≤ length bytes
unfolding utf16_units
units-le-length bytes utf8 = omega (arith, units_of-le (chars bytes), ap length (encodes-chars bytes utf8))

-- one byte more
pub before-more : (text : List ℕ) (p : ℕ) → p < length text → before text (p + 1) ≡ before text p + units_begun (get_or text p 0)
unfolding begun
before-more text p h = sum_by_more units_begun text p 0 h

pub before-between : (text : List ℕ) (from to : ℕ) → from ≤ to → before text to ≡ before text from + begun (slice_range text from to)
before-between text from to le =
    let split : from + (to - from) ≡ to = omega arith in
    ap (λ n. before text n) (sym split) ∙ ap begun (take-add from (to - from) text) ∙ begun-append (take from text) (slice_range text from to)

-- no fewer units further on
pub before-le : (text : List ℕ) (from to : ℕ) → from ≤ to → before text from ≤ before text to
before-le text from to le = omega (arith, before-between text from to le)

begun_some : (byte : ℕ) → (128 ≤ byte → 192 ≤ byte) → 1 ≤ units_begun byte
begun_some byte h = grind (arith, nat_tests)

-- more of them past a boundary
pub before-lt : (text : List ℕ) (from to : ℕ) → IsCharBoundary text from → from < to → from < length text → before text from < before text to
before-lt text from to b lt within =
    omega (arith, before-more text from within, begun_some (get_or text from 0) (b.1 within), before-le text (from + 1) to (omega arith))

-- the units between two boundaries
pub units-between : (text : List ℕ) (from to : ℕ) → IsUtf8 text → IsCharBoundary text from → IsCharBoundary text to → from ≤ to
    → utf16_units (slice_range text from to) + before text from ≡ before text to
units-between text from to utf8 a b le =
    omega (arith, units-begun (slice_range text from to) (IsUtf8-between text from to utf8 le a b), before-between text from to le)

pub units-le-between : (text : List ℕ) (from to : ℕ) → IsUtf8 text → IsCharBoundary text from → IsCharBoundary text to → from ≤ to
    → utf16_units (slice_range text from to) + from ≤ to
units-le-between text from to utf8 a b le =
    omega (arith, units-le-length (slice_range text from to) (IsUtf8-between text from to utf8 le a b), length-take (to - from) (drop from text))
