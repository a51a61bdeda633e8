-- Counts of characters.
use Rattle.std.proofs.Common.{◌≡◌, ℕ, ◌+◌, ◌-◌, ◌≤◌, ◌<◌, true, false, cond, count_by, List, [], ◌∷◌, ◌++◌, length, take, drop, get_or, refl, sym, ap, ◌∙◌, arith, slice_range}
use Rattle.std.specs.Str.{chars, IsUtf8, IsCharBoundary}
use Rattle.std.proofs.lemmas.Bool.Decides.{nat_tests}
use Rattle.std.proofs.lemmas.List.{take_all, length-take}
use Rattle.std.proofs.lemmas.List.Sums.{sum_by-append, count_by_more_yes, count_by_more_no, count_by-le-length}
use Rattle.std.proofs.lemmas.Str.{encodes-chars}
use Rattle.std.proofs.Math.Seq.{take-add}
use lib.Utf8.{encode, encodes}
use Rattle.bytecount.specs.Counts.{begins_char, char_count}
use Rattle.source_location.specs.Characters.{is_char_start}
pub use Rattle.bytecount.proofs.CharsLemmas.{char_count-append, char_count-nil, char_count-encodes, char_count-chars}

-- the crate that counts says in its own words which bytes begin a character
pub begins_alike : (x : ℕ) → begins_char x ≡ is_char_start x
begins_alike x = grind (arith, nat_tests)

-- between two places
pub char_count-between : (text : List ℕ) (from to : ℕ) → from ≤ to → char_count (take to text) ≡ char_count (take from text) + char_count (slice_range text from to)
char_count-between text from to le =
    let split : from + (to - from) ≡ to = omega arith in
    ap (λ n. char_count (take n text)) (sym split) ∙ ap char_count (take-add from (to - from) text) ∙ char_count-append (take from text) (slice_range text from to)

-- no fewer characters further on
pub char_count-le : (text : List ℕ) (from to : ℕ) → from ≤ to → char_count (take from text) ≤ char_count (take to text)
char_count-le text from to le = omega (arith, char_count-between text from to le)

-- more of them past a boundary
pub char_count-lt : (text : List ℕ) (from to : ℕ) → IsCharBoundary text from → from < to → from < length text → char_count (take from text) < char_count (take to text)
unfolding char_count
char_count-lt text from to b lt within =
    let start : is_char_start (get_or text from 0) ≡ true = grind (arith, nat_tests, b.1) in
    omega (arith, count_by_more_yes begins_char text from 0 within (begins_alike (get_or text from 0) ∙ start), char_count-le text (from + 1) to (omega arith))

-- none where the second place is not past the first
pub char_count-none : (text : List ℕ) (from to : ℕ) → to ≤ from → char_count (slice_range text from to) ≡ 0
char_count-none text from to le =
    let empty : to - from ≡ 0 = omega arith in
    ap (λ n. char_count (take n (drop from text))) empty ∙ char_count-nil

pub char_count-whole : (text : List ℕ) (at : ℕ) → length text ≤ at → char_count (take at text) ≡ char_count text
char_count-whole text at le = ap char_count (take_all at text le)

pub no_characters : (row : List ℕ) (at : ℕ) → at ≡ 0 → char_count (take at row) ≡ 0
no_characters row at e = ap (λ n. char_count (take n row)) e ∙ char_count-nil

pub all_characters : (row : List ℕ) (at : ℕ) → at ≡ length row → char_count (take at row) ≡ char_count row
all_characters row at e = char_count-whole row at (omega arith)

-- one byte more, where a character begins with it and where none does
pub char_count_begun : (row : List ℕ) (at : ℕ) → at < length row → is_char_start (get_or row at 0) ≡ true → char_count (take (at + 1) row) ≡ char_count (take at row) + 1
unfolding char_count
char_count_begun row at h e = omega (arith, count_by_more_yes begins_char row at 0 h (begins_alike (get_or row at 0) ∙ e))

pub char_count_within : (row : List ℕ) (at : ℕ) → at < length row → is_char_start (get_or row at 0) ≡ false → char_count (take (at + 1) row) ≡ char_count (take at row)
unfolding char_count
char_count_within row at h e = omega (arith, count_by_more_no begins_char row at 0 h (begins_alike (get_or row at 0) ∙ e))

-- no more characters before an offset than bytes
pub char_count-le-offset : (text : List ℕ) (from to : ℕ) → char_count (slice_range text from to) ≤ to
unfolding char_count
char_count-le-offset text from to =
    omega (arith, count_by-le-length begins_char (slice_range text from to), length-take (to - from) (drop from text))

pub ruleset counted_to_a_place = (char_count_begun, char_count_within, no_characters, all_characters)
