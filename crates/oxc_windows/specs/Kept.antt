-- The row starts that an index or a scanner keeps from read to read, and the start of the first span that it read.
use Rattle.std.specs.Prelude.{◌≡◌, ℕ, ◌+◌, ◌-◌, ◌<◌, ◌≤◌, nat_lt, List, [], length, slice_index_or, take, Option, Some, None, if◌then◌else◌}
use Rattle.oxc_windows.specs.declared.breaks.LineBreak.{LineBreak}
use Rattle.oxc_windows.specs.Rows.{row_start}
use Rattle.oxc_windows.specs.Window.{first_row}

-- the start of the first span that had a window, after a read of a span more: it is set once, by a span that ends within the text
abbrev pub first_after : ℕ → Option ℕ → ℕ → ℕ → Option ℕ
first_after len (Some first) start end = Some first
first_after len None start end = if nat_lt len end then None else Some start

-- the row starts kept: none before the first span that had a window, then those of consecutive rows of the text from the first row
-- of that span's window on
abbrev pub AreKept : ℕ → List LineBreak → ℕ → Option ℕ → List ℕ → Type 0
AreKept len breaks before None kept = kept ≡ []
AreKept len breaks before (Some first) kept = (i d : ℕ) → i < length kept
    → (slice_index_or kept i d ≡ row_start len breaks (first_row breaks before first + i)) × (first_row breaks before first + i ≤ length breaks)

-- none of the row starts kept is lost: the old list is the first part of the new one
abbrev pub AllStay : List ℕ → List ℕ → Type 0
AllStay old new = take (length old) new ≡ old

-- the row is kept, in a list that begins with the start of row `from`
abbrev pub IsRowKept : ℕ → List LineBreak → ℕ → List ℕ → ℕ → Type 0
IsRowKept len breaks from kept row = (row - from < length kept) × (slice_index_or kept (row - from) len ≡ row_start len breaks row)

-- every row start is kept, from that of row `from` on to before a place
abbrev pub AreKeptUpTo : ℕ → List LineBreak → ℕ → List ℕ → ℕ → Type 0
AreKeptUpTo len breaks from kept stop = (row : ℕ) → from ≤ row → row ≤ length breaks → row_start len breaks row < stop → IsRowKept len breaks from kept row
