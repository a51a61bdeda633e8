-- The rows that are drawn of a window: its pieces after each LF.
use Rattle.std.specs.Prelude.{ℕ, ◌+◌, ◌-◌, ◌==◌, not, Bool, List, [], ◌∷◌, length, slice_index, slice_range, take, min, if◌then◌else◌}
use Rattle.std.specs.List.{position_or_len}
use Rattle.oxc_windows.specs.declared.window.Window.{Window}
use Rattle.oxc_windows.specs.Scan.{Contents}
use Rattle.oxc_plan.specs.declared.rows.Row.{Row}

-- the first byte stands before the first piece, and its piece ends with an LF
abbrev pub with_byte : ℕ → List (List ℕ) → List (List ℕ)
with_byte b [] = (b ∷ []) ∷ []
with_byte b (piece ∷ pieces) = (b ∷ piece) ∷ pieces

-- the pieces of bytes, each with the LF at its end, and none empty
unfoldable pub pieces : List ℕ → List (List ℕ)
pieces [] = []
pieces (b ∷ bytes) = if b == 10 then (b ∷ []) ∷ pieces bytes else with_byte b (pieces bytes)

-- the length of the first piece
abbrev pub first_len : List ℕ → ℕ
first_len bytes = min (position_or_len (λ b. b == 10) bytes + 1) (length bytes)

-- the byte before n, if it is this one
abbrev pub ends_at : List ℕ → ℕ → ℕ → Bool
ends_at bytes n b = slice_index bytes (n - 1) == b

-- a piece without its LF and one CR before it; a piece without LF is kept
unfoldable pub row_text : List ℕ → List ℕ
row_text piece =
    if not (ends_at piece (length piece) 10) then piece
    else if ends_at piece (length piece - 1) 13 then take (length piece - 2) piece
    else take (length piece - 1) piece

-- the piece is cut off after a CR
abbrev pub is_cut : List ℕ → Bool
is_cut piece = ends_at piece (length piece) 13

-- what contracts see of a row
pub record RowView : Type 0 where
  pub number : ℕ
  pub offset : ℕ
  pub length : ℕ
  pub text : List ℕ

abbrev pub row_view : Row → RowView
row_view row = record { number = row.number; offset = row.offset; length = row.length; text = row.text.now }

-- the row of a piece, below so many rows: its number counts from 1, and does not count a piece that is cut off after a CR
abbrev pub row_of_piece : ℕ → ℕ → List ℕ → RowView
row_of_piece above offset piece =
    record { number = (if is_cut piece then above else above + 1); offset = offset; length = length piece; text = row_text piece }

-- the rows of pieces that follow one another from an offset on, below so many rows
unfoldable pub numbered : ℕ → ℕ → List (List ℕ) → List RowView
numbered above offset [] = []
numbered above offset (piece ∷ more) =
    row_of_piece above offset piece ∷ numbered (above + 1) (offset + length piece) more

-- the rows of bytes that begin at an offset, below so many rows
abbrev pub rows_from : ℕ → ℕ → List ℕ → List RowView
rows_from above offset bytes = numbered above offset (pieces bytes)

-- the rows of a window of a source
abbrev pub rows_in : List ℕ → Window → List RowView
rows_in source window = rows_from window.line window.begin (slice_range source window.begin window.end)

-- the rows of what a scanner read
abbrev pub rows_of : Contents → List RowView
rows_of contents = rows_from contents.line contents.span.start contents.bytes
