-- Kinds of bytes, runs of them, and numbers.
use Rattle.std.specs.Prelude.{ℕ, ◌+◌, ◌-◌, ◌*◌, ◌^◌, ◌==◌, ◌&&◌, ◌||◌, not, nat_lt, nat_le, if◌then◌else◌, Bool, true, false, List, [], ◌∷◌, length, take, drop, slice_index, Option, Some, None, option_map}
use Rattle.std.specs.List.{prefix_len, suffix_len, list_any}
use Rattle.std.specs.Char.{to_ascii_lowercase}
use Rattle.line_shapes.specs.declared.bytes.Kind.{Kind}
use Rattle.line_shapes.specs.declared.bytes.Kind.TheVariants.{Blank, Digit, Capital, Word, LetterOrDigit, Angled, Space, InRule, InCop, InProgram, InBrackets, InParentheses, InCode, Joint}

abbrev pub is_letter : ℕ → Bool
is_letter byte = nat_le 0x41 byte && nat_le byte 0x5A || (nat_le 0x61 byte && nat_le byte 0x7A)

abbrev pub is_digit : ℕ → Bool
is_digit byte = nat_le 0x30 byte && nat_le byte 0x39

abbrev pub is_in : Kind → ℕ → Bool
is_in Blank byte = byte == 0x20 || byte == 0x09
is_in Digit byte = is_digit byte
is_in Capital byte = nat_le 0x41 byte && nat_le byte 0x5A
is_in Word byte = is_letter byte || is_digit byte || byte == 0x5F
is_in LetterOrDigit byte = is_letter byte || is_digit byte
is_in Angled byte = nat_le 0x61 byte && nat_le byte 0x7A || byte == 0x20
is_in Space byte = byte == 0x20
is_in InRule byte = not (byte == 0x20 || byte == 0x09 || byte == 0x5B || byte == 0x5D || byte == 0x28 || byte == 0x29 || byte == 0x7B || byte == 0x7D || byte == 0x3A || byte == 0x2C)
is_in InCop byte = is_letter byte || is_digit byte || byte == 0x2F
is_in InProgram byte = is_letter byte || is_digit byte || (byte == 0x5F || byte == 0x2E || byte == 0x2B || byte == 0x2D || byte == 0x2F)
is_in InBrackets byte = not (byte == 0x20 || byte == 0x09 || byte == 0x5B || byte == 0x5D)
is_in InParentheses byte = not (byte == 0x20 || byte == 0x09 || byte == 0x28 || byte == 0x29)
is_in InCode byte = nat_le 0x61 byte && nat_le byte 0x7A || is_digit byte || byte == 0x5F
is_in Joint byte = byte == 0x2D || byte == 0x5F || byte == 0x2F || byte == 0x3A

-- a length, where it isn't 0
abbrev pub some_run : ℕ → Option ℕ
some_run n = if nat_lt 0 n then Some n else None

-- a text begins with a word of small letters, itself in small or capital ones
abbrev pub begins_with : List ℕ → List ℕ → Bool
begins_with text [] = true
begins_with [] (letter ∷ word) = false
begins_with (x ∷ xs) (letter ∷ word) = if to_ascii_lowercase x == letter then begins_with xs word else false

-- there is a digit, and a zero only by itself
abbrev pub leads_well : List ℕ → Bool
leads_well [] = false
leads_well (byte ∷ []) = true
leads_well (byte ∷ (next ∷ rest)) = not (byte == 0x30)

-- the number that digits go on to write
abbrev pub value_from : ℕ → List ℕ → ℕ
value_from value [] = value
value_from value (digit ∷ digits) = value_from (value * 10 + (digit - 0x30)) digits

-- a number, where it is one of 32 bits
abbrev pub small : ℕ → Option ℕ
small n = if nat_lt n (2 ^ 32) then Some n else None

abbrev pub value_of : List ℕ → Option ℕ
value_of digits = if leads_well digits then small (value_from 0 digits) else None

-- the decimal number that a text begins with, and its length
abbrev pub number_at : List ℕ → Option (ℕ × ℕ)
number_at text = let count = prefix_len (is_in Digit) text in option_map (λ value. (count, value)) (value_of (take count text))

-- one to six capital letters and one to six digits, and no letter, digit or `_` behind
abbrev pub capitals_and_digits : List ℕ → Option ℕ
capitals_and_digits text =
    let capitals = prefix_len (is_in Capital) text in
    let digits = prefix_len (is_in Digit) (drop capitals text) in
    if nat_le 1 capitals && nat_le capitals 6 && nat_le 1 digits && nat_le digits 6 && (prefix_len (is_in Word) (drop digits (drop capitals text)) == 0) then Some (capitals + digits) else None

-- words joined by a byte; the flag says that one has begun
abbrev pub are_words : ℕ → Bool → List ℕ → Bool
are_words separator begun [] = begun
are_words separator begun (x ∷ xs) = if (x == separator) && not begun then false else are_words separator (not (x == separator)) xs

-- two words or more, joined by a byte
abbrev pub are_joined : ℕ → List ℕ → Bool
are_joined separator text = list_any (λ byte. byte == separator) text && are_words separator false text

-- letters, digits and `/`, as many as stand there, that are words joined by `/`
abbrev pub cop_len : List ℕ → Option ℕ
cop_len text = let count = prefix_len (is_in InCop) text in if are_joined 0x2F (take count text) then Some count else None

-- a text without the blanks at its end
abbrev pub trimmed : List ℕ → List ℕ
trimmed text = take (length text - suffix_len (is_in Blank) text) text

-- a text without its last byte, where it is this one
abbrev pub before_last : ℕ → List ℕ → Option (List ℕ)
before_last byte text = if slice_index text (length text - 1) == byte then Some (take (length text - 1) text) else None
