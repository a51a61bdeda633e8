-- Numbers in decimal, and words.
use Rattle.std.proofs.Common.{◌≡◌, ℕ, ◌+◌, ◌-◌, ◌*◌, ◌≤◌, ◌==◌, if◌then◌else◌, List, [], ◌∷◌, length, true, false, arith}
use Rattle.std.specs.Char.{to_ascii_lowercase}
use Rattle.line_shapes.specs.Bytes.{value_from, begins_with}

-- a number grows as digits are put behind it
pub value_grows : (value : ℕ) (digits : List ℕ) → value ≤ value_from value digits
value_grows value [] = omega arith
value_grows value (digit ∷ digits) = omega (arith, value_grows (value * 10 + (digit - 0x30)) digits)

pub word_within : (text word : List ℕ) → begins_with text word ≡ true → length word ≤ length text
word_within text [] so = omega arith
word_within [] (letter ∷ word) so = cc
word_within (x ∷ xs) (letter ∷ word) so =
    elim (to_ascii_lowercase x == letter) as (λ v. (if v then begins_with xs word else false) ≡ true → length (letter ∷ word) ≤ length (x ∷ xs)) [ true ↦ (λ so. omega (arith, word_within xs word so)) | false ↦ (λ so. cc) ] so
