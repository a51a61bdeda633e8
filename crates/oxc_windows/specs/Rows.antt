-- Rows, their starts, and the place of an offset, from the length of a text and its breaks alone.
use Rattle.std.specs.Prelude.{ℕ, ◌+◌, ◌-◌, nat_lt, ◌==◌, ◌&&◌, Bool, List, ◌∷◌, map, count_by, slice_index_or, if◌then◌else◌}
use Rattle.std.specs.List.{list_any}
use Rattle.oxc_windows.specs.declared.breaks.LineBreak.{LineBreak}

-- the row of an offset, from 0: how many breaks end before it
unfoldable pub row_of : List LineBreak → ℕ → ℕ
row_of breaks offset = count_by (λ b. nat_lt b.end offset) breaks

-- 0, and the place after each break
abbrev pub row_starts : List LineBreak → List ℕ
row_starts breaks = 0 ∷ map (λ b. b.end + 1) breaks

-- where a row starts, and the text's length where there is no such row
unfoldable pub row_start : ℕ → List LineBreak → ℕ → ℕ
row_start len breaks r = slice_index_or (row_starts breaks) r len

-- the offset is the LF of a CRLF
abbrev pub is_second_byte : List LineBreak → ℕ → Bool
is_second_byte breaks offset = list_any (λ b. (b.end == offset) && nat_lt b.start offset) breaks

-- an offset, where the LF of a CRLF counts as its CR
unfoldable pub settled : List LineBreak → ℕ → ℕ
settled breaks offset = if is_second_byte breaks offset then offset - 1 else offset

-- the bytes from the start of its row to an offset
unfoldable pub byte_column : ℕ → List LineBreak → ℕ → ℕ
byte_column len breaks offset = settled breaks offset - row_start len breaks (row_of breaks offset)

-- a row, and a number of bytes from its start
pub record Place : Type 0 where
  pub row : ℕ
  pub column : ℕ

-- the place of an offset, both parts from 0
abbrev pub place_of : ℕ → List LineBreak → ℕ → Place
place_of len breaks offset = record { row = row_of breaks offset; column = byte_column len breaks offset }
