-- Parts of an input.
use Rattle.std.specs.Prelude.{ℕ, ◌+◌, ◌==◌, ◌&&◌, List, [], ◌∷◌, ◌++◌, length, nat_le, min, count_by, flat_map, slice_range, if◌then◌else◌}
use Rattle.json_forms.specs.declared.cut.Piece.{Piece}

-- the bytes from one to another
abbrev pub part_of : List ℕ → ℕ → ℕ → List ℕ
part_of bytes start end = if nat_le start end && nat_le end (length bytes) then slice_range bytes start end else []

-- a line that is no value, and its end
abbrev pub line_of : List ℕ → Piece → List ℕ
line_of bytes it = if it.is_value then [] else part_of bytes it.start it.end ++ 0x0A ∷ []

-- the lines beside the values
unfoldable pub lines_beside : List ℕ → List Piece → List ℕ
lines_beside bytes pieces = flat_map (line_of bytes) pieces

abbrev pub breaks_in : List ℕ → ℕ
breaks_in bytes = count_by (λ byte. byte == 0x0A) bytes

-- no row is past 2^64
abbrev pub later : ℕ → ℕ → ℕ
later row more = min (row + more) 18446744073709551615

-- the rows of the values that come from a byte on, which is in this row
abbrev pub rows_from : List ℕ → ℕ → ℕ → List Piece → List ℕ
rows_from bytes at row [] = []
rows_from bytes at row (it ∷ pieces) =
    let here = later row (breaks_in (part_of bytes at it.start)) in
    if it.is_value then here ∷ rows_from bytes it.start here pieces else rows_from bytes it.start here pieces
