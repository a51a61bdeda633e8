-- The rows that a diff changed.
use Rattle.std.specs.Prelude.{◌≡◌, ℕ, ◌==◌, ◌&&◌, ◌||◌, nat_lt, nat_le, Bool, false, List, Option, Some, None, is_some, Result, Ok, Err, IsPermutation}
use Rattle.std.specs.List.{list_any}
use Rattle.std.specs.List.Sorted.{IsPartitionedBy}
use Rattle.changed_rows.specs.Files.{number_of}
use Rattle.changed_rows.specs.Reading.{Seen}
use Rattle.changed_rows.specs.declared.diff.RowSet.{RowSet}
use Rattle.changed_rows.specs.declared.diff.RowSet.TheVariants.{Added, Shown}
use Rattle.changed_rows.specs.declared.error.Refusal.{Refusal}
use Rattle.changed_rows.specs.declared.reader.FileRow.{FileRow}

-- the files of a diff, and its rows by the numbers of files
pub record Changes : Type 0 where
  pub files : List (List ℕ)
  pub added : List FileRow
  pub shown : List FileRow

-- a row of a file comes before another
abbrev pub comes_before : ℕ → ℕ → FileRow → Bool
comes_before file row it = nat_lt it.file file || (it.file == file && nat_lt it.row row)

-- it is one of the rows from `first` to `last` of a file
abbrev pub is_within : ℕ → ℕ → ℕ → FileRow → Bool
is_within file first last it = it.file == file && (nat_le first it.row && nat_le it.row last)

abbrev pub has_row : List FileRow → ℕ → ℕ → ℕ → Bool
has_row rows file first last = list_any (is_within file first last) rows

abbrev pub rows_in : Changes → RowSet → List FileRow
rows_in changes Added = changes.added
rows_in changes Shown = changes.shown

-- the file is in the diff
abbrev pub has_file : Changes → List ℕ → Bool
has_file changes name = is_some (number_of changes.files name)

abbrev pub has_row_of : List FileRow → Option ℕ → ℕ → ℕ → Bool
has_row_of rows None first last = false
has_row_of rows (Some file) first last = has_row rows file first last

-- the diff has one of the rows from `first` to `last` of a file
abbrev pub touches : Changes → RowSet → List ℕ → ℕ → ℕ → Bool
touches changes set name first last = has_row_of (rows_in changes set) (number_of changes.files name) first last

abbrev pub is_row_to : Option FileRow → ℕ → ℕ → Bool
is_row_to None file last = false
is_row_to (Some it) file last = it.file == file && nat_le it.row last

-- rows in order: where one comes before a row of a file, those before it do
abbrev pub IsOrdered : List FileRow → Type 0
IsOrdered rows = (file row : ℕ) → IsPartitionedBy (comes_before file row) rows

-- a diff's files and rows are those that were read
pub record IsOf (changes : Changes) (seen : Seen) : Type 0 where
  pub files : changes.files ≡ seen.files
  pub added : IsPermutation seen.added changes.added
  pub shown : IsPermutation seen.shown changes.shown

abbrev pub Says : Changes → Result Seen Refusal → Type 0
Says changes (Ok seen) = IsOf changes seen
Says changes (Err it) = ⊥
