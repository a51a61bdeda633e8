-- The words of a part of a text, with the spaces behind each.
use Rattle.std.specs.Prelude.{ℕ, ◌+◌, ◌==◌, ◌&&◌, Bool, false, List, [], ◌∷◌, length, slice_index, if◌then◌else◌}
use Rattle.std.specs.Char.{is_ascii_alphanumeric}

-- a word, or the part of one up to a hyphen, and the number of spaces behind it
pub record Word : Type 0 where
  pub text : List ℕ
  pub gap : ℕ

-- an ASCII letter or digit
unfoldable pub is_letter_or_digit : ℕ → Bool
is_letter_or_digit byte = is_ascii_alphanumeric byte

-- a `-` between two ASCII letters or digits, behind which a word is cut
abbrev pub is_inner_hyphen : Bool → ℕ → ℕ → Bool
is_inner_hyphen behind_letter byte next = behind_letter && ((byte == 0x2D) && is_letter_or_digit next)

-- a space before some words: one more behind the empty word, which the first of them is where a space begins them
abbrev pub with_space : List Word → List Word
with_space [] = record { text = []; gap = 1 } ∷ []
with_space (word ∷ more) =
    if length word.text == 0 then record { text = []; gap = word.gap + 1 } ∷ more
    else record { text = []; gap = 1 } ∷ word ∷ more

-- any other byte before some words
abbrev pub with_byte : ℕ → List Word → List Word
with_byte byte [] = record { text = byte ∷ []; gap = 0 } ∷ []
with_byte byte (word ∷ more) = record { text = byte ∷ word.text; gap = word.gap } ∷ more

-- the words of what stands behind a byte, which may be an ASCII letter or digit
abbrev pub words_behind : Bool → List ℕ → List Word
words_behind letter [] = []
words_behind letter (byte ∷ rest) =
    if byte == 0x20 then with_space (words_behind false rest)
    else if is_inner_hyphen letter byte (slice_index rest 0) then record { text = byte ∷ []; gap = 0 } ∷ words_behind false rest
    else with_byte byte (words_behind (is_letter_or_digit byte) rest)

-- the words of a part, cut at hyphens: spaces at its beginning stand behind an empty word
unfoldable pub words : List ℕ → List Word
words part = words_behind false part
