-- What stands below a heading is set in columns.
use Rattle.std.specs.Prelude.{ℕ, ◌+◌, ◌-◌, ◌==◌, ◌&&◌, ◌||◌, not, nat_le, if◌then◌else◌, Bool, List, [], ◌∷◌, length, take, drop, slice_index, Option, Some, None}
use Rattle.std.specs.List.{position, prefix_len, range_with_len}
use Rattle.line_shapes.specs.declared.bytes.Kind.TheVariants.{Blank, Space}
use Rattle.line_shapes.specs.Bytes.{is_in}
use Rattle.line_shapes.specs.Said.{Words}

-- a tab or two spaces stand at a place
abbrev pub opens_gap : List ℕ → ℕ → Bool
opens_gap text at = slice_index text at == 0x09 || (slice_index text at == 0x20 && is_in Space (slice_index text (at + 1)))

-- the same, and no blank before it
abbrev pub is_gap : List ℕ → ℕ → Bool
is_gap text at = not (is_in Blank (slice_index text (at - 1))) && opens_gap text at

abbrev pub gap : List ℕ → Option ℕ
gap text = position (is_gap text) (range_with_len 0 (length text))

-- a tab stands at a place, or two blanks
abbrev pub is_parting : List ℕ → ℕ → Bool
is_parting text at = slice_index text at == 0x09 || (is_in Blank (slice_index text at) && is_in Blank (slice_index text (at + 1)))

abbrev pub parting : List ℕ → Option ℕ
parting text = position (is_parting text) (range_with_len 0 (length text))

abbrev pub column_to : List ℕ → Option ℕ → List ℕ
column_to text None = text
column_to text (Some at) = take at text

-- a text up to its first tab, or the first of two blanks
abbrev pub column : List ℕ → List ℕ
column text = column_to text (parting text)

abbrev pub bare_by : List ℕ → List ℕ → List ℕ
bare_by text rest = if nat_le 2 (length rest) && (slice_index rest (length rest - 1) == 0x29) then take (length rest - 1) rest else text

-- a code without the parentheses around it
abbrev pub unparenthesized : List ℕ → List ℕ
unparenthesized [] = []
unparenthesized (x ∷ []) = x ∷ []
unparenthesized (x ∷ (y ∷ rest)) = if x == 0x28 then bare_by (x ∷ (y ∷ rest)) (y ∷ rest) else x ∷ (y ∷ rest)

abbrev pub behind_gap : ℕ → List ℕ → List ℕ
behind_gap at text = let rest = drop at text in drop (prefix_len (is_in Blank) rest) rest

abbrev pub with_column_by : Option (List ℕ) → Option ℕ → Words → Words
with_column_by (Some code) at words = words
with_column_by None None words = words
with_column_by None (Some at) words = record words { code = Some (unparenthesized (column (behind_gap at words.message))); message = take at words.message }

-- what a line says, with the code that blanks set apart from the message
unfoldable pub with_column : Words → Words
with_column words = with_column_by words.code (gap words.message) words
