-- The parts of a line.
use Rattle.std.specs.Prelude.{ℕ, ◌^◌, ◌==◌, ◌&&◌, not, nat_lt, nat_le, if◌then◌else◌, Bool, true, false, List, [], ◌∷◌, length, Option, Some, None, option_map}
use Rattle.std.specs.List.{list_all, position_or_len, before_first, after_first}
use Rattle.std.specs.Str.Parse.{digits_value}

-- what stands before a byte, where it first comes, and behind it
unfoldable pub cut_at : ℕ → List ℕ → Option (List ℕ × List ℕ)
cut_at byte text =
    if nat_lt (position_or_len (λ b. b == byte) text) (length text)
    then Some (before_first (λ b. b == byte) text, after_first (λ b. b == byte) text)
    else None

-- what stands behind a front
unfoldable pub behind : List ℕ → List ℕ → Option (List ℕ)
behind [] text = Some text
behind (p ∷ ps) [] = None
behind (p ∷ ps) (x ∷ xs) = if x == p then behind ps xs else None

abbrev pub is_digit : ℕ → Bool
is_digit byte = nat_le 0x30 byte && nat_le byte 0x39

-- there is a byte, and a zero only by itself
abbrev pub leads_well : List ℕ → Bool
leads_well [] = false
leads_well (byte ∷ []) = true
leads_well (byte ∷ (next ∷ rest)) = not (byte == 0x30)

-- digits, and no zero before others
abbrev pub looks_as_number : List ℕ → Bool
looks_as_number text = list_all is_digit text && leads_well text

-- a number in decimal, without a leading zero
unfoldable pub number_of : List ℕ → Option ℕ
number_of text = if looks_as_number text && nat_lt (digits_value 10 text) (2 ^ 64) then Some (digits_value 10 text) else None

-- a text without the byte at its end, if it ends so
unfoldable pub without_last : ℕ → List ℕ → Option (List ℕ)
without_last byte [] = None
without_last byte (x ∷ []) = if x == byte then Some [] else None
without_last byte (x ∷ (y ∷ rest)) = option_map (λ front. x ∷ front) (without_last byte (y ∷ rest))
