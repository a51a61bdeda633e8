-- Counts of characters.
use Rattle.std.proofs.Common.{◌≡◌, ℕ, ◌+◌, ◌≤◌, cond, List, [], ◌∷◌, ◌++◌, length, refl, sym, ap, ◌∙◌, arith}
use Rattle.std.specs.Str.{chars, IsUtf8}
use Rattle.std.proofs.lemmas.Bool.Decides.{nat_tests}
use Rattle.std.proofs.lemmas.List.Sums.{sum_by-append, count_by-le-length}
use Rattle.std.proofs.lemmas.Str.{encodes-chars}
use lib.Utf8.{encode, encodes}
use Rattle.bytecount.specs.Counts.{begins_char, char_count}

pub char_count-append : (xs ys : List ℕ) → char_count (xs ++ ys) ≡ char_count xs + char_count ys
unfolding char_count
char_count-append xs ys = sum_by-append (λ byte. cond (begins_char byte) 1 0) xs ys

pub char_count-nil : char_count [] ≡ 0
unfolding char_count
char_count-nil = refl

-- the bytes of a character have one first byte
char_count-encode : (c : ℕ) → char_count (encode c) ≡ 1
unfolding char_count encode
char_count-encode c = grind (arith, nat_tests)

pub char_count-encodes : (cs : List ℕ) → char_count (encodes cs) ≡ length cs
char_count-encodes [] = char_count-nil
char_count-encodes (c ∷ cs) = omega (arith, char_count-append (encode c) (encodes cs), char_count-encode c, char_count-encodes cs)

-- of a text it is the number of its characters
pub char_count-chars : (bytes : List ℕ) → IsUtf8 bytes → char_count bytes ≡ length (chars bytes)
char_count-chars bytes utf8 = ap char_count (sym (encodes-chars bytes utf8)) ∙ char_count-encodes (chars bytes)

pub char_count-le-length : (bytes : List ℕ) → char_count bytes ≤ length bytes
unfolding char_count
char_count-le-length bytes = count_by-le-length begins_char bytes
