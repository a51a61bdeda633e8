-- What a diff says.
use Rattle.std.specs.Prelude.{ℕ, zero, suc, ◌+◌, ◌==◌, ◌&&◌, not, Bool, true, false, List, [], ◌∷◌, ◌++◌, take, drop, Option, Some, None, Result, Ok, Err, codes, if◌then◌else◌}
use Rattle.std.specs.List.{list_any}
use Rattle.std.specs.Str.Lossy.{utf8_lossy}
use Rattle.changed_rows.specs.Files.{number_of, with_file}
use Rattle.changed_rows.specs.Heads.{begins, head_in, line_kind, target_of}
use Rattle.changed_rows.specs.Lines.{lines_of}
use Rattle.changed_rows.specs.Names.{plain_name}
use Rattle.changed_rows.specs.Quoted.{name_in}
use Rattle.changed_rows.specs.Refused.{refusal}
use Rattle.changed_rows.specs.Rows.{hunk_length, rows_told}
use Rattle.changed_rows.specs.declared.error.Refusal.{Refusal}
use Rattle.changed_rows.specs.declared.error.Wanted.TheVariants.{PlainText, TwoFiles, Names, Rows, MoreRows}
use Rattle.changed_rows.specs.declared.error.Wanted.TheVariants as wanted
use Rattle.changed_rows.specs.declared.heads.HunkHead.{HunkHead}
use Rattle.changed_rows.specs.declared.heads.LineKind.{LineKind}
use Rattle.changed_rows.specs.declared.heads.LineKind.TheVariants.{Section, Combined, Renamed, Copied, Old, Hunk, Other}
use Rattle.changed_rows.specs.declared.reader.FileRow.{FileRow}
use Rattle.changed_rows.specs.declared.reader.HunkEnd.{HunkEnd}
use Rattle.changed_rows.specs.declared.reader.Reader.{Reader}

-- what a diff said so far: its files, the rows that were added and those that hunks show, by the numbers of files;
-- whether names came before, and the file that hunks are of
pub record Seen : Type 0 where
  pub files : List (List ℕ)
  pub added : List FileRow
  pub shown : List FileRow
  pub named : Bool
  pub file : Option ℕ

abbrev pub seen_of : Reader → Seen
seen_of reader = record { files = reader.files; added = reader.added.items; shown = reader.shown.items; named = reader.named; file = reader.file }

-- what is said after something that begins at a line, and how many of the lines after that belong to it
abbrev pub Said : Type 0
Said = Result (Seen × ℕ) Refusal

-- a name as findings have it: bytes that aren't UTF-8 are U+FFFD there
abbrev pub file_name : List ℕ → List ℕ
file_name name = plain_name [] (utf8_lossy name)

-- the hunks that come are of this file
unfoldable pub touched : Seen → List ℕ → Seen
touched seen name =
    let files = with_file seen.files (file_name name) in
    record { files = files; added = seen.added; shown = seen.shown; named = seen.named; file = number_of files (file_name name) }

abbrev pub file_touched : Seen → Option (List ℕ) → Seen
file_touched seen (Some name) = touched seen name
file_touched seen None = record { files = seen.files; added = seen.added; shown = seen.shown; named = seen.named; file = None }

-- ---- a new name

abbrev pub target_on : Seen → Result (List ℕ) Refusal → Said
target_on seen (Ok name) = Ok (touched seen name, 0)
target_on seen (Err it) = Err it

unfoldable pub target_said : ℕ → Seen → List ℕ → Said
target_said row seen text = target_on seen (name_in row text)

-- ---- `--- OLD` and `+++ NEW`

abbrev pub with_names : Seen → Seen
with_names seen = record { files = seen.files; added = seen.added; shown = seen.shown; named = true; file = seen.file }

abbrev pub names_on : Option ℕ → Seen → Result (List ℕ) Refusal → Result (List ℕ) Refusal → Said
names_on strip seen (Err it) new = Err it
names_on strip seen (Ok old) (Err it) = Err it
names_on strip seen (Ok old) (Ok new) = Ok (file_touched (with_names seen) (target_of strip new old), 0)

abbrev pub names_in : Option ℕ → ℕ → Seen → List ℕ → List (List ℕ) → Said
names_in strip row seen line [] = Ok (seen, 0)
names_in strip row seen line (next ∷ rest) =
    if begins next (codes "+++ ") then names_on strip seen (name_in row (drop 4 line)) (name_in (row + 1) (drop 4 next)) else Ok (seen, 0)

unfoldable pub names_said : Option ℕ → ℕ → Seen → List ℕ → List (List ℕ) → Said
names_said strip row seen line after = names_in strip row seen line after

-- ---- a hunk

abbrev pub head_on : ℕ → Bool → Option HunkHead → Result HunkHead Refusal
head_on row named None = Err (refusal row wanted.HunkHead)
head_on row named (Some head) =
    if not named then Err (refusal row Names) else if head.old == 0 && head.new == 0 then Err (refusal row Rows) else Ok head

abbrev pub rows_on : Seen → Option ℕ → ℕ → List (List ℕ) → Seen
rows_on seen None start lines = seen
rows_on seen (Some file) start lines = record {
  files = seen.files;
  added = seen.added ++ rows_told false file start lines;
  shown = seen.shown ++ rows_told true file start lines;
  named = seen.named;
  file = seen.file;
}

-- the rows of a hunk's lines are known, if they are of a file
abbrev pub with_rows : Seen → ℕ → List (List ℕ) → Seen
with_rows seen start lines = rows_on seen seen.file start lines

abbrev pub hunk_on : ℕ → Seen → ℕ → List (List ℕ) → Result ℕ HunkEnd → Said
hunk_on row seen start after (Ok count) = Ok (with_rows seen start (take count after), count)
hunk_on row seen start after (Err end) = Err (refusal (row + 1 + end.count) (MoreRows end.old end.new))

abbrev pub hunk_with : ℕ → Seen → List (List ℕ) → Result HunkHead Refusal → Said
hunk_with row seen after (Err it) = Err it
hunk_with row seen after (Ok head) = hunk_on row seen head.start after (hunk_length 0 head.old head.new after)

unfoldable pub hunk_said : ℕ → Seen → List ℕ → List (List ℕ) → Said
hunk_said row seen line after = hunk_with row seen after (head_on row seen.named (head_in line))

-- ---- a diff

abbrev pub item_of : Option ℕ → ℕ → Seen → List ℕ → List (List ℕ) → LineKind → Said
item_of strip row seen line after Section = Ok (record { files = seen.files; added = seen.added; shown = seen.shown; named = false; file = None }, 0)
item_of strip row seen line after Combined = Err (refusal row TwoFiles)
item_of strip row seen line after Renamed = target_said row seen (drop 10 line)
item_of strip row seen line after Copied = target_said row seen (drop 8 line)
item_of strip row seen line after Old = names_said strip row seen line after
item_of strip row seen line after Hunk = hunk_said row seen line after
item_of strip row seen line after Other = Ok (seen, 0)

unfoldable pub item_said : Option ℕ → ℕ → Seen → List ℕ → List (List ℕ) → Said
item_said strip row seen line after = item_of strip row seen line after (line_kind line)

-- what lines say, the first of which comes after so many that belong to what came before
abbrev pub if_read : (Seen × ℕ → Result Seen Refusal) → Said → Result Seen Refusal
if_read next (Ok it) = next it
if_read next (Err it) = Err it

abbrev pub read_from : Option ℕ → ℕ → Seen → ℕ → List (List ℕ) → Result Seen Refusal
read_from strip row seen skip [] = Ok seen
read_from strip row seen (suc skip) (line ∷ rest) = read_from strip (row + 1) seen skip rest
read_from strip row seen zero (line ∷ rest) = if_read (λ it. read_from strip (row + 1) it.0 it.1 rest) (item_said strip row seen line rest)

abbrev pub nothing : Seen
nothing = record { files = []; added = []; shown = []; named = false; file = None }

-- no byte order mark, and no NUL near the beginning, as in UTF-16
abbrev pub is_plain : List ℕ → Bool
is_plain diff = not (begins diff (0xEF ∷ 0xBB ∷ 0xBF ∷ [])) && not (list_any (λ byte. byte == 0) (take 64 diff))

-- what a diff says
unfoldable pub seen_in : Option ℕ → List ℕ → Result Seen Refusal
seen_in strip diff = if is_plain diff then read_from strip 1 nothing 0 (lines_of diff) else Err (refusal 1 PlainText)
