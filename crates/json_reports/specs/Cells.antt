-- Columns in cells, as columns in characters.
use Rattle.std.specs.Prelude.{ℕ, ◌+◌, ◌-◌, ◌%◌, ◌==◌, ◌^◌, nat_le, nat_lt, if◌then◌else◌, List, [], ◌∷◌, Option, Some, None}
use Rattle.json_forms.specs.declared.form.Unit as code_unit
use Rattle.json_forms.specs.declared.form.Unit.TheVariants as units
use Rattle.json_reports.specs.declared.cells.Cells.{Cells}
use Rattle.json_reports.specs.declared.cells.Cells.TheVariants.{Four, Eight, EightUtf16}

-- the cells that a unit counts, if it counts cells
abbrev pub cells_of : code_unit.Unit → Option Cells
cells_of units.Bytes = None
cells_of units.Characters = None
cells_of units.Utf16 = None
cells_of units.Cells4 = Some Four
cells_of units.Cells8 = Some Eight
cells_of units.Cells8Utf16 = Some EightUtf16

-- from so many cells of a row up to the next tab stop
abbrev pub to_stop : Cells → ℕ → ℕ
to_stop Four at = 4 - at % 4
to_stop Eight at = 8 - at % 8
to_stop EightUtf16 at = 8 - at % 8

-- how many cells a character takes that is no tab
abbrev pub width_other : Cells → ℕ → ℕ
width_other Four c = 1
width_other Eight c = 1
width_other EightUtf16 c = if nat_lt c (2 ^ 16) then 1 else 2

-- how many cells a character takes, behind so many of its row
abbrev pub width : Cells → ℕ → ℕ → ℕ
width cells at c = if c == 0x09 then to_stop cells at else width_other cells c

-- how many of the characters stand whole before so many cells of their row, where `at` cells stand before the first of them
unfoldable pub passed : Cells → ℕ → ℕ → List ℕ → ℕ
passed cells count at [] = 0
passed cells count at (c ∷ cs) = let next = at + width cells at c in if nat_le next count then passed cells count next cs + 1 else 0

-- the column in characters of a column in cells, both from 1: that of the character that takes the cell, or behind the row's last
abbrev pub char_column : Cells → List ℕ → ℕ → ℕ
char_column cells row column = passed cells (column - 1) 0 row + 1
