-- Rows and places in them, from a list of breaks alone.
use Rattle.std.specs.Prelude.{ℕ, ◌+◌, ◌-◌, List, slice_range, length, if◌then◌else◌}
use Rattle.source_location.specs.Breaks.{LineBreak, breaks_of}
pub use Rattle.oxc_windows.specs.Rows.{row_of, row_starts as line_starts, row_start, is_second_byte}

-- how many rows a text has: one more than breaks
abbrev pub row_count : List ℕ → ℕ
row_count text = length (breaks_of text) + 1

-- the bytes of a row with its break, and none where there is no such row
abbrev pub row_text : List ℕ → ℕ → List ℕ
row_text text row = slice_range text (row_start (length text) (breaks_of text) row) (row_start (length text) (breaks_of text) (row + 1))

-- a row, and a number of bytes from its start
pub record Place : Type 0 where
  pub row : ℕ
  pub column : ℕ

-- the place of an offset, both parts from 0; the LF of a CRLF counts as its CR
abbrev pub place_of : ℕ → List LineBreak → ℕ → Place
place_of len breaks offset =
    let settled = if is_second_byte breaks offset then offset - 1 else offset in
    record { row = row_of breaks offset; column = settled - row_start len breaks (row_of breaks offset) }
