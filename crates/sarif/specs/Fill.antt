-- The text of a message with its arguments in it.
use Rattle.std.specs.Prelude.{ℕ, zero, suc, ◌+◌, ◌-◌, ◌==◌, ◌&&◌, ◌||◌, Bool, not, List, [], ◌∷◌, ◌++◌, take, drop, take_while, length, nat_lt, slice_get, slice_index, slice_range, if◌then◌else◌, Option, Some, None, option_and_then, unwrap_or}
use Rattle.std.specs.Char.{is_ascii_digit}
use Rattle.numerals.specs.Numerals.{number_in}

abbrev pub is_brace : ℕ → Bool
is_brace byte = byte == 0x7B || byte == 0x7D

-- how many digits stand behind the first byte
abbrev pub digits_len : List ℕ → ℕ
digits_len bytes = length (take_while is_ascii_digit (drop 1 bytes))

-- a number in braces stands at the beginning: its digits begin with no 0, but for 0 itself
abbrev pub is_placeholder : List ℕ → ℕ → Bool
is_placeholder bytes digits =
    slice_index bytes 0 == 0x7B && (nat_lt 0 digits && ((digits == 1 || not (slice_index bytes 1 == 0x30)) && slice_index bytes (digits + 1) == 0x7D))

-- what the first bytes of a text become, and how many they are
pub record Piece : Type 0 where
  pub text : List ℕ
  pub width : ℕ

abbrev pub doubled : List ℕ → ℕ → Bool
doubled bytes brace = slice_index bytes 0 == brace && slice_index bytes 1 == brace

-- the argument of this number; past the last the placeholder as it stands
abbrev pub argument_in : List (List ℕ) → List ℕ → ℕ → List ℕ
argument_in arguments bytes digits = unwrap_or (option_and_then (slice_get arguments) (number_in (slice_range bytes 1 (digits + 1)))) (take (digits + 2) bytes)

-- a doubled brace is one, a number in braces is that argument, and any other byte is itself
unfoldable pub piece_at : List (List ℕ) → List ℕ → Piece
piece_at arguments bytes =
    if doubled bytes 0x7B then record { text = 0x7B ∷ []; width = 2 }
    else if doubled bytes 0x7D then record { text = 0x7D ∷ []; width = 2 }
    else if is_placeholder bytes (digits_len bytes) then record { text = argument_in arguments bytes (digits_len bytes); width = digits_len bytes + 2 }
    else record { text = take 1 bytes; width = 1 }

-- the text of what follows, behind a piece of which `skip` bytes are left
unfoldable pub filled_from : List (List ℕ) → ℕ → List ℕ → List ℕ
filled_from arguments skip [] = []
filled_from arguments (suc skip) (byte ∷ bytes) = filled_from arguments skip bytes
filled_from arguments zero (byte ∷ bytes) =
    let piece = piece_at arguments (byte ∷ bytes) in piece.text ++ filled_from arguments (piece.width - 1) bytes

-- a text with arguments in it; without a list of arguments it stays as it is
abbrev pub filled : List ℕ → Option (List (List ℕ)) → List ℕ
filled text None = text
filled text (Some arguments) = filled_from arguments 0 text
