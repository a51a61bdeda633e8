-- The lines under a row, cell by cell. A cell past a line's end is a space.
use Rattle.std.specs.Prelude.{◌≡◌, ℕ, ◌<◌, ◌≤◌, ◌==◌, List, All, length, None, slice_index_or, if◌then◌else◌}
use Rattle.report_reader.specs.Seen.{Mark}
use Rattle.report_reader.specs.Shown.{bar_of, bars_to, mark_cells, marker}

abbrev pub cell_of : List ℕ → ℕ → ℕ
cell_of line cell = slice_index_or line cell 0x20

-- what stands in a cell of a mark: its marker where its text hangs, and carets beside that
abbrev pub mark_cell : Mark → ℕ → ℕ
mark_cell m cell = if cell == bar_of m then marker m else 0x5E

-- a cell is none of a mark's
abbrev pub IsBeside : ℕ → Mark → Type 0
IsBeside cell m = m.start ≤ cell → m.end ≤ cell

-- the line of marks: in each cell of a mark what the mark has there, and spaces in all others
pub record HoldsMarks (marks : List Mark) (line : List ℕ) : Type 0 where
  pub held : All (λ m. (cell : ℕ) → m.start ≤ cell → cell < m.end → cell_of line cell ≡ mark_cell m cell) marks
  pub others : (cell : ℕ) → All (IsBeside cell) marks → cell_of line cell ≡ 0x20

-- the front of the line of a text that hangs from a cell: up to that cell a bar for each mark, and spaces in all others
pub record HoldsBars (marks : List Mark) (to : ℕ) (line : List ℕ) : Type 0 where
  pub size : length line ≡ to
  pub held : All (λ m. cell_of line (bar_of m) ≡ 0x7C) marks
  pub others : (cell : ℕ) → All (λ m. ¬ (bar_of m ≡ cell)) marks → cell_of line cell ≡ 0x20

-- both laws of marks
pub record AreCells (marks : List Mark) : Type 0 where
  pub cells : HoldsMarks marks (mark_cells 0 marks)
  pub bars : (to : ℕ) → All (λ m. m.end ≤ to) marks → HoldsBars marks to (bars_to None to marks)
