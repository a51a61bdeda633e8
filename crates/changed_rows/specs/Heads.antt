-- The heads of files and hunks.
use Rattle.std.specs.Prelude.{ℕ, zero, suc, ◌+◌, ◌-◌, ◌*◌, ◌^◌, ◌==◌, ◌&&◌, ◌||◌, not, nat_eq, nat_lt, nat_le, Bool, false, List, [], ◌∷◌, length, drop, Option, Some, None, option_map, codes, if◌then◌else◌}
use Rattle.std.specs.List.{list_all, starts_with}
use Rattle.std.specs.Str.{bytes_eq}
use Rattle.changed_rows.specs.Lines.{front_to, back_from}
use Rattle.changed_rows.specs.declared.heads.HunkHead.{HunkHead}
use Rattle.changed_rows.specs.declared.heads.LineKind.{LineKind}
use Rattle.changed_rows.specs.declared.heads.LineKind.TheVariants.{Section, Combined, Renamed, Copied, Old, Hunk, Other}

-- a line begins with a text
abbrev pub begins : List ℕ → List ℕ → Bool
begins line front = starts_with nat_eq line front

-- what a line of a diff is, outside of hunks
unfoldable pub line_kind : List ℕ → LineKind
line_kind line =
    if begins line (codes "diff --git ") || begins line (codes "Index: ") then Section
    else if begins line (codes "diff --cc ") || begins line (codes "diff --combined ") || begins line (codes "@@@") then Combined
    else if begins line (codes "rename to ") then Renamed
    else if begins line (codes "copy to ") then Copied
    else if begins line (codes "--- ") then Old
    else if begins line (codes "@@ ") then Hunk
    else Other

-- ---- numbers

abbrev pub is_digit : ℕ → Bool
is_digit byte = nat_le 0x30 byte && nat_le byte 0x39

-- the number that digits go on to write
abbrev pub value_from : ℕ → List ℕ → ℕ
value_from value [] = value
value_from value (digit ∷ digits) = value_from (value * 10 + (digit - 0x30)) digits

-- a number, if it has 32 bits
abbrev pub small : ℕ → Option ℕ
small n = if nat_lt n (2 ^ 32) then Some n else None

-- the number that decimal digits write, below 2^32
abbrev pub number_in : List ℕ → Option ℕ
number_in text = if not (length text == 0) && list_all is_digit text then small (value_from 0 text) else None

-- ---- the head of a hunk: `@@ -ROW,COUNT +ROW,COUNT @@`, and then nothing, or a blank and anything

abbrev pub both : Option ℕ → Option ℕ → Option (ℕ × ℕ)
both (Some row) (Some count) = Some (row, count)
both (Some row) None = None
both None count = None

-- `ROW,COUNT`, or `ROW` for one row
abbrev pub range_in : List ℕ → Option (ℕ × ℕ)
range_in text =
    if length (front_to 0x2C text) == length text then option_map (λ row. (row, 1)) (number_in text)
    else both (number_in (front_to 0x2C text)) (number_in (back_from 0x2C text))

-- the head with these two ranges, whose rows have 32 bits
abbrev pub head_ranges : Option (ℕ × ℕ) → Option (ℕ × ℕ) → Option HunkHead
head_ranges (Some old) (Some new) = if nat_lt (new.0 + new.1) (2 ^ 32) then Some (record { old = old.1; start = new.0; new = new.1 }) else None
head_ranges (Some old) None = None
head_ranges None new = None

abbrev pub is_tail_text : List ℕ → Bool
is_tail_text text = begins text (codes "@@ ") || bytes_eq text (codes "@@") || bytes_eq text (codes "@@\r")

-- what comes after the sign of the new range
abbrev pub head_new : List ℕ → List ℕ → Option HunkHead
head_new old text = if is_tail_text (back_from 0x20 text) then head_ranges (range_in old) (range_in (front_to 0x20 text)) else None

abbrev pub head_old : List ℕ → Option HunkHead
head_old text = if begins (back_from 0x20 text) (codes "+") then head_new (front_to 0x20 text) (drop 1 (back_from 0x20 text)) else None

unfoldable pub head_in : List ℕ → Option HunkHead
head_in line = if begins line (codes "@@ -") then head_old (drop 4 line) else None

-- ---- the name of a file

-- the name of no file
abbrev pub is_nothing_name : List ℕ → Bool
is_nothing_name name = bytes_eq name (codes "/dev/null")

-- the letters of the folders that git puts before names
abbrev pub is_folder : ℕ → Bool
is_folder letter = letter == 0x61 || letter == 0x62 || letter == 0x63 || letter == 0x69 || letter == 0x77 || letter == 0x6F || letter == 0x31 || letter == 0x32

-- the folder of one letter that a name begins with, if git puts it there
abbrev pub folder_of : List ℕ → Option ℕ
folder_of [] = None
folder_of (letter ∷ []) = None
folder_of (letter ∷ slash ∷ rest) = if slash == 0x2F && is_folder letter then Some letter else None

abbrev pub are_apart : ℕ → Option ℕ → Bool
are_apart folder None = false
are_apart folder (Some other) = not (other == folder)

abbrev pub prefixed_by : Option ℕ → List ℕ → Bool
prefixed_by None old = false
prefixed_by (Some folder) old = is_nothing_name old || are_apart folder (folder_of old)

-- git put a folder before the new name: another than before the old one, or there is no old file
abbrev pub is_prefixed_name : List ℕ → List ℕ → Bool
is_prefixed_name new old = prefixed_by (folder_of new) old

-- how many folders are taken away: so many as was asked, or the one that git put there
abbrev pub folders_of : Option ℕ → List ℕ → List ℕ → ℕ
folders_of (Some count) new old = count
folders_of None new old = if is_prefixed_name new old then 1 else 0

-- a name without so many folders before it, if it has them
abbrev pub without_folders : ℕ → List ℕ → Option (List ℕ)
without_folders zero name = Some name
without_folders (suc count) name = if length (front_to 0x2F name) == length name then None else without_folders count (back_from 0x2F name)

-- the file that hunks are of: the new one, if it is a file
unfoldable pub target_of : Option ℕ → List ℕ → List ℕ → Option (List ℕ)
target_of strip new old = if is_nothing_name new then None else without_folders (folders_of strip new old) new
