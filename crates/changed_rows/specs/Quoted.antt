-- Names as a diff's heads write them.
use Rattle.std.specs.Prelude.{ℕ, zero, suc, ◌+◌, ◌-◌, ◌*◌, ◌==◌, ◌&&◌, nat_le, Bool, List, [], ◌∷◌, ◌++◌, Option, Some, None, option_map, Result, Ok, Err, if◌then◌else◌}
use Rattle.std.specs.Option.{option_map_or}
use Rattle.changed_rows.specs.Lines.{front_to, without_return}
use Rattle.changed_rows.specs.Refused.{refusal}
use Rattle.changed_rows.specs.declared.error.Refusal.{Refusal}
use Rattle.changed_rows.specs.declared.error.Wanted.TheVariants.{Escape, Quote}

-- an octal digit up to another
abbrev pub is_octal : ℕ → ℕ → Bool
is_octal byte last = nat_le 0x30 byte && nat_le byte last

-- what a letter after a backslash writes
abbrev pub escape_of : ℕ → Option ℕ
escape_of letter =
    if letter == 0x61 then Some 0x07 else if letter == 0x62 then Some 0x08 else if letter == 0x74 then Some 0x09 else if letter == 0x6E then Some 0x0A
    else if letter == 0x76 then Some 0x0B else if letter == 0x66 then Some 0x0C else if letter == 0x72 then Some 0x0D
    else if letter == 0x22 then Some 0x22 else if letter == 0x5C then Some 0x5C else None

abbrev pub letter_piece : List ℕ → Option (ℕ × ℕ)
letter_piece [] = None
letter_piece (letter ∷ rest) = option_map (λ value. (value, 2)) (escape_of letter)

-- three octal digits, the first up to 3
abbrev pub octal_piece : List ℕ → Option (ℕ × ℕ)
octal_piece (a ∷ b ∷ c ∷ rest) =
    if is_octal a 0x33 && is_octal b 0x37 && is_octal c 0x37 then Some ((a - 0x30) * 64 + (b - 0x30) * 8 + (c - 0x30), 4) else letter_piece (a ∷ b ∷ c ∷ rest)
octal_piece (a ∷ b ∷ []) = letter_piece (a ∷ b ∷ [])
octal_piece (a ∷ []) = letter_piece (a ∷ [])
octal_piece [] = letter_piece []

-- the byte that a quoted text begins with, and how many bytes write it
abbrev pub piece_at : List ℕ → Option (ℕ × ℕ)
piece_at [] = None
piece_at (byte ∷ rest) = if byte == 0x5C then octal_piece rest else Some (byte, 1)

-- the bytes that a quoted text writes up to its closing quote, after `name`, from the byte on that comes after so many
abbrev pub unquoted_from : ℕ → List ℕ → ℕ → List ℕ → Result (List ℕ) Refusal
unquoted_from row name skip [] = Err (refusal row Quote)
unquoted_from row name (suc skip) (byte ∷ rest) = unquoted_from row name skip rest
unquoted_from row name zero (byte ∷ rest) =
    if byte == 0x22 then Ok name
    else option_map_or (λ it. unquoted_from row (name ++ it.0 ∷ []) (it.1 - 1) rest) (piece_at (byte ∷ rest)) (Err (refusal row Escape))

abbrev pub unquoted : ℕ → List ℕ → Result (List ℕ) Refusal
unquoted row text = unquoted_from row [] 0 text

-- a name as git quotes it, or up to a tab
abbrev pub name_in_line : ℕ → List ℕ → Result (List ℕ) Refusal
name_in_line row [] = Ok []
name_in_line row (byte ∷ rest) = if byte == 0x22 then unquoted row rest else Ok (front_to 0x09 (byte ∷ rest))

unfoldable pub name_in : ℕ → List ℕ → Result (List ℕ) Refusal
name_in row text = name_in_line row (without_return text)
