-- The cells that characters take, a tab to the next multiple of 8.
use Rattle.std.specs.Prelude.{◌≡◌, ℕ, ◌+◌, ◌-◌, ◌%◌, ◌<◌, ◌≤◌, ◌==◌, ◌&&◌, nat_le, nat_lt, if◌then◌else◌, Bool, List, [], ◌∷◌, length, take, drop, slice_index, true, false, unwrap_or}
use Rattle.std.specs.List.{list_any, prefix_len}
use Rattle.unicode_width.specs.Width.{char_width}

-- how many cells a character takes that begins in this cell
abbrev pub step : ℕ → ℕ → ℕ
step cell c = if c == 0x09 then 8 - cell % 8 else unwrap_or (char_width false c) 0

-- the cell after these characters, of which the first begins in a cell
abbrev pub cells_of : ℕ → List ℕ → ℕ
cells_of cell [] = cell
cells_of cell (c ∷ cs) = cells_of (cell + step cell c) cs

-- the cell in which the character at a place begins
abbrev pub cell_at : List ℕ → ℕ → ℕ
cell_at line k = cells_of 0 (take k line)

-- the character at a place covers a cell; past the end, each character is one cell
pub record IsOver (line : List ℕ) (cell k : ℕ) : Type 0 where
  pub begun : k < length line → cell_at line k ≤ cell
  pub covered : k < length line → cell < cell_at line (k + 1)
  pub past : length line ≤ k → k + cell_at line (length line) ≡ length line + cell

-- a character of ASCII that takes one cell
abbrev pub is_printable : ℕ → Bool
is_printable c = nat_le 0x20 c && nat_le c 0x7E

-- a character has no cell of its own
unfoldable pub is_narrow : ℕ → Bool
is_narrow c = step 0 c == 0

-- each character between two places is narrow
abbrev pub EachNarrow : List ℕ → ℕ → ℕ → Type 0
EachNarrow line from to = (k : ℕ) → from ≤ k → k < to → is_narrow (slice_index line k) ≡ true

-- so many characters of a text that begins in a cell end before another cell is past; after the text each cell is one more
abbrev pub over_from : ℕ → ℕ → List ℕ → ℕ
over_from cell begin [] = cell - begin
over_from cell begin (c ∷ cs) = if nat_lt cell (begin + step begin c) then 0 else 1 + over_from cell (begin + step begin c) cs

-- the place of the character over a cell
unfoldable pub over_cell : List ℕ → ℕ → ℕ
over_cell line cell = over_from cell 0 line

-- where the characters without a width end that follow from a place on
unfoldable pub narrow_end : List ℕ → ℕ → ℕ
narrow_end line at = at + prefix_len is_narrow (drop at line)

-- of a row whose text begins at a place: the character of the text over a cell
unfoldable pub start_column : List ℕ → ℕ → ℕ → ℕ
start_column row text cell = over_cell row cell - text

-- the end of the characters of the text over the cells before one, with those without a width after them
unfoldable pub end_column : List ℕ → ℕ → ℕ → ℕ
end_column row text end_cell = narrow_end row (over_cell row (end_cell - 1) + 1) - text

abbrev pub places_from : List ℕ → ℕ → ℕ → List ℕ → List ℕ
places_from cells k cell [] = []
places_from cells k cell (c ∷ cs) =
    if list_any (λ one. one == cell) cells then k ∷ places_from cells (k + 1) (cell + step cell c) cs else places_from cells (k + 1) (cell + step cell c) cs

-- the places of the characters that begin in one of some cells
unfoldable pub places_of : List ℕ → List ℕ → List ℕ
places_of cells line = places_from cells 0 0 line

-- each cell is past the one before it, and the first not before one
abbrev pub ascend : ℕ → List ℕ → Bool
ascend least [] = true
ascend least (cell ∷ cells) = nat_le least cell && ascend (cell + 1) cells

-- the cells before the first that isn't below an end
abbrev pub below : ℕ → List ℕ → List ℕ
below end [] = []
below end (cell ∷ cells) = if nat_lt cell end then cell ∷ below end cells else []
