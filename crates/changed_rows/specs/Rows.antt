-- The lines of hunks.
use Rattle.std.specs.Prelude.{ℕ, ◌+◌, ◌-◌, ◌==◌, ◌&&◌, ◌||◌, nat_le, Bool, true, false, List, [], ◌∷◌, ◌++◌, Result, Ok, Err, if◌then◌else◌}
use Rattle.changed_rows.specs.declared.reader.FileRow.{FileRow}
use Rattle.changed_rows.specs.declared.reader.HunkEnd.{HunkEnd}
use Rattle.changed_rows.specs.declared.reader.RowKind.{RowKind}
use Rattle.changed_rows.specs.declared.reader.RowKind.TheVariants.{Kept, Removed, Added, Remark, Other}

-- what a line of a hunk is; some programs take the blank away from empty rows
abbrev pub row_kind : List ℕ → RowKind
row_kind [] = Kept
row_kind (byte ∷ rest) =
    if byte == 0x20 || byte == 0x0D then Kept else if byte == 0x2D then Removed else if byte == 0x2B then Added else if byte == 0x5C then Remark else Other

-- how many rows of the old file it has
abbrev pub taken_old : RowKind → ℕ
taken_old Kept = 1
taken_old Removed = 1
taken_old Added = 0
taken_old Remark = 0
taken_old Other = 0

-- and of the new file
abbrev pub taken_new : RowKind → ℕ
taken_new Kept = 1
taken_new Removed = 0
taken_new Added = 1
taken_new Remark = 0
taken_new Other = 0

abbrev pub is_row : RowKind → Bool
is_row Kept = true
is_row Removed = true
is_row Added = true
is_row Remark = true
is_row Other = false

-- it goes into a hunk that wants so many more rows
abbrev pub fits : RowKind → ℕ → ℕ → Bool
fits kind old new = is_row kind && nat_le (taken_old kind) old && nat_le (taken_new kind) new

-- how many lines a hunk takes: up to that with which it has its rows, and `count` before these
abbrev pub hunk_length : ℕ → ℕ → ℕ → List (List ℕ) → Result ℕ HunkEnd
hunk_length count old new [] = if old == 0 && new == 0 then Ok count else Err (record { count = count; old = old; new = new })
hunk_length count old new (line ∷ rest) =
    if old == 0 && new == 0 then Ok count
    else if fits (row_kind line) old new then hunk_length (count + 1) (old - taken_old (row_kind line)) (new - taken_new (row_kind line)) rest
    else Err (record { count = count; old = old; new = new })

abbrev pub is_told : Bool → RowKind → Bool
is_told all Kept = all
is_told all Removed = false
is_told all Added = true
is_told all Remark = false
is_told all Other = false

abbrev pub row_told : Bool → ℕ → ℕ → RowKind → List FileRow
row_told all file at kind = if is_told all kind then record { file = file; row = at } ∷ [] else []

-- the rows of the new file in a hunk's lines, the first of which is `at`: all, or those that were added
abbrev pub rows_told : Bool → ℕ → ℕ → List (List ℕ) → List FileRow
rows_told all file at [] = []
rows_told all file at (line ∷ rest) = row_told all file at (row_kind line) ++ rows_told all file (at + taken_new (row_kind line)) rest
