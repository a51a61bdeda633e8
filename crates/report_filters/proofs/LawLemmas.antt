-- What a diff leaves in one mode it leaves in the wider ones.
use Rattle.std.proofs.Common.{◌≡◌, ℕ, zero, suc, ◌+◌, ◌==◌, ◌||◌, Bool, true, false, List, [], ◌∷◌, ◌++◌, length, take, drop, codes, Option, Some, None, Result, Ok, Err, if◌then◌else◌, is_some, refl, sym, ◌∙◌}
use Rattle.std.specs.List.{list_any}
use Rattle.std.specs.Prelude.{⊤}
use Rattle.std.proofs.lemmas.Bool.{false≢true}
use Rattle.std.proofs.lemmas.List.Folds.{list_any-append}
use Rattle.std.proofs.lemmas.List.Sorted.{list_any-IsPermutation}
use Rattle.changed_rows.specs.Changes.{Changes, Says, has_file, has_row_of, is_within, rows_in}
use Rattle.changed_rows.specs.Files.{number_of}
use Rattle.changed_rows.specs.Heads.{begins, target_of}
use Rattle.changed_rows.specs.Quoted.{name_in}
use Rattle.changed_rows.specs.Reading.{Said, Seen, file_touched, hunk_on, hunk_said, hunk_with, if_read, is_plain, item_of, item_said, names_in, names_on, names_said, nothing, read_from, rows_on, seen_in, target_on, target_said, touched, with_names}
use Rattle.changed_rows.specs.Rows.{row_kind, row_told, rows_told, taken_new}
use Rattle.changed_rows.specs.declared.diff.RowSet.{RowSet}
use Rattle.changed_rows.specs.declared.diff.RowSet.TheVariants as rows
use Rattle.changed_rows.specs.declared.error.Refusal.{Refusal}
use Rattle.changed_rows.specs.declared.heads.HunkHead.{HunkHead}
use Rattle.changed_rows.specs.declared.heads.LineKind.{LineKind}
use Rattle.changed_rows.specs.declared.heads.LineKind.TheVariants as line
use Rattle.changed_rows.specs.declared.reader.FileRow.{FileRow}
use Rattle.changed_rows.specs.declared.reader.HunkEnd.{HunkEnd}
use Rattle.changed_rows.specs.declared.reader.RowKind.{RowKind}
use Rattle.changed_rows.specs.declared.reader.RowKind.TheVariants.{Kept, Removed, Added, Remark, Other}
use Rattle.finding_filters.specs.Changed.{is_changed, touches_rows}
use Rattle.finding_filters.specs.Finding.{FindingParts, rows_of}
use Rattle.finding_filters.specs.declared.changed.FilterMode.TheVariants as mode

or_second : (a b : Bool) → b ≡ true → a || b ≡ true
or_second true b is = refl
or_second false b is = is

or_both : (a b c d : Bool) → (a ≡ true → b ≡ true) → (c ≡ true → d ≡ true) → a || c ≡ true → b || d ≡ true
or_both true true c d f g is = refl
or_both true false c d f g is = absurd (false≢true (f refl))
or_both false true c d f g is = refl
or_both false false c d f g is = g is

-- ---- rows that were added are shown

-- what holds of an added row holds of a shown one
abbrev pub AreShown : List FileRow → List FileRow → Type 0
AreShown added shown = (p : FileRow → Bool) → list_any p added ≡ true → list_any p shown ≡ true

abbrev pub Wide : Seen → Type 0
Wide seen = AreShown seen.added seen.shown

any_both : (p : FileRow → Bool) (a b c d : List FileRow) → (list_any p a ≡ true → list_any p b ≡ true) → (list_any p c ≡ true → list_any p d ≡ true)
    → list_any p (a ++ c) ≡ true → list_any p (b ++ d) ≡ true
any_both p a b c d f g is = list_any-append p b d ∙ or_both (list_any p a) (list_any p b) (list_any p c) (list_any p d) f g (sym (list_any-append p a c) ∙ is)

any_more : (p : FileRow → Bool) (row : FileRow) (many : List FileRow) → list_any p many ≡ true → list_any p (row ∷ many) ≡ true
any_more p row many is = list_any-append p (row ∷ []) many ∙ or_second (list_any p (row ∷ [])) (list_any p many) is

row_wide : (p : FileRow → Bool) (file at : ℕ) (kind : RowKind) (few many : List FileRow) → (list_any p few ≡ true → list_any p many ≡ true)
    → list_any p (row_told false file at kind ++ few) ≡ true → list_any p (row_told true file at kind ++ many) ≡ true
row_wide p file at Kept few many wide is = any_more p (record { file = file; row = at }) many (wide is)
row_wide p file at Removed few many wide is = wide is
row_wide p file at Added few many wide is =
    let row : FileRow = record { file = file; row = at } in any_both p (row ∷ []) (row ∷ []) few many (λ e. e) wide is
row_wide p file at Remark few many wide is = wide is
row_wide p file at Other few many wide is = wide is

told_wide : (file at : ℕ) (lines : List (List ℕ)) → AreShown (rows_told false file at lines) (rows_told true file at lines)
told_wide file at [] p is = is
told_wide file at (line ∷ rest) p is =
    row_wide p file at (row_kind line) (rows_told false file (at + taken_new (row_kind line)) rest) (rows_told true file (at + taken_new (row_kind line)) rest)
    (told_wide file (at + taken_new (row_kind line)) rest p) is

-- ---- so it is of a diff

abbrev pub SaidWide : Said → Type 0
SaidWide (Ok it) = Wide it.0
SaidWide (Err it) = ⊤

abbrev pub ReadWide : Result Seen Refusal → Type 0
ReadWide (Ok seen) = Wide seen
ReadWide (Err it) = ⊤

either_wide : (b : Bool) (x y : Said) → SaidWide x → SaidWide y → SaidWide (if b then x else y)
either_wide true x y one two = one
either_wide false x y one two = two

touched_wide : (seen : Seen) (name : List ℕ) → Wide seen → Wide (touched seen name)
unfolding touched
touched_wide seen name wide = wide

file_wide : (seen : Seen) (name : Option (List ℕ)) → Wide seen → Wide (file_touched seen name)
file_wide seen (Some name) wide = touched_wide seen name wide
file_wide seen None wide = wide

target_wide : (seen : Seen) (name : Result (List ℕ) Refusal) → Wide seen → SaidWide (target_on seen name)
target_wide seen (Ok name) wide = touched_wide seen name wide
target_wide seen (Err it) wide = tt

named_wide : (strip : Option ℕ) (seen : Seen) (old new : Result (List ℕ) Refusal) → Wide seen → SaidWide (names_on strip seen old new)
named_wide strip seen (Err it) new wide = tt
named_wide strip seen (Ok old) (Err it) wide = tt
named_wide strip seen (Ok old) (Ok new) wide = file_wide (with_names seen) (target_of strip new old) wide

names_wide : (strip : Option ℕ) (row : ℕ) (seen : Seen) (line : List ℕ) (after : List (List ℕ)) → Wide seen → SaidWide (names_in strip row seen line after)
names_wide strip row seen line [] wide = wide
names_wide strip row seen line (next ∷ rest) wide =
    let old = name_in row (drop 4 line) in
    let new = name_in (row + 1) (drop 4 next) in
    either_wide (begins next (codes "+++ ")) (names_on strip seen old new) (Ok (seen, 0)) (named_wide strip seen old new wide) wide

rows_wide : (seen : Seen) (file : Option ℕ) (start : ℕ) (lines : List (List ℕ)) → Wide seen → Wide (rows_on seen file start lines)
rows_wide seen None start lines wide = wide
rows_wide seen (Some file) start lines wide = λ p is.
    any_both p seen.added seen.shown (rows_told false file start lines) (rows_told true file start lines) (wide p) (told_wide file start lines p) is

ended_wide : (row : ℕ) (seen : Seen) (start : ℕ) (after : List (List ℕ)) (end : Result ℕ HunkEnd) → Wide seen → SaidWide (hunk_on row seen start after end)
ended_wide row seen start after (Ok count) wide = rows_wide seen seen.file start (take count after) wide
ended_wide row seen start after (Err end) wide = tt

hunk_wide : (row : ℕ) (seen : Seen) (after : List (List ℕ)) (head : Result HunkHead Refusal) → Wide seen → SaidWide (hunk_with row seen after head)
hunk_wide row seen after (Err it) wide = tt
hunk_wide row seen after (Ok head) wide = ended_wide row seen head.start after _ wide

kind_wide : (strip : Option ℕ) (row : ℕ) (seen : Seen) (text : List ℕ) (after : List (List ℕ)) (kind : LineKind) → Wide seen → SaidWide (item_of strip row seen text after kind)
unfolding target_said names_said hunk_said
kind_wide strip row seen text after line.Section wide = wide
kind_wide strip row seen text after line.Combined wide = tt
kind_wide strip row seen text after line.Renamed wide = target_wide seen _ wide
kind_wide strip row seen text after line.Copied wide = target_wide seen _ wide
kind_wide strip row seen text after line.Old wide = names_wide strip row seen text after wide
kind_wide strip row seen text after line.Hunk wide = hunk_wide row seen after _ wide
kind_wide strip row seen text after line.Other wide = wide

item_wide : (strip : Option ℕ) (row : ℕ) (seen : Seen) (text : List ℕ) (after : List (List ℕ)) → Wide seen → SaidWide (item_said strip row seen text after)
unfolding item_said
item_wide strip row seen text after wide = kind_wide strip row seen text after _ wide

next_wide : (next : Seen × ℕ → Result Seen Refusal) (said : Said) → ((it : Seen × ℕ) → Wide it.0 → ReadWide (next it)) → SaidWide said → ReadWide (if_read next said)
next_wide next (Ok it) goes wide = goes it wide
next_wide next (Err it) goes wide = tt

read_wide : (strip : Option ℕ) (row : ℕ) (seen : Seen) (skip : ℕ) (lines : List (List ℕ)) → Wide seen → ReadWide (read_from strip row seen skip lines)
read_wide strip row seen skip [] wide = wide
read_wide strip row seen (suc skip) (line ∷ rest) wide = read_wide strip (row + 1) seen skip rest wide
read_wide strip row seen zero (line ∷ rest) wide =
    next_wide (λ it. read_from strip (row + 1) it.0 it.1 rest) (item_said strip row seen line rest) (λ it so. read_wide strip (row + 1) it.0 it.1 rest so)
    (item_wide strip row seen line rest wide)

if_wide : (b : Bool) (x : Result Seen Refusal) (why : Refusal) → ReadWide x → ReadWide (if b then x else Err why)
if_wide true x why wide = wide
if_wide false x why wide = tt

diff_wide : (strip : Option ℕ) (diff : List ℕ) → ReadWide (seen_in strip diff)
unfolding seen_in
diff_wide strip diff = if_wide (is_plain diff) _ _ (read_wide strip 1 nothing 0 _ (λ p is. is))

says_wide : (changes : Changes) (read : Result Seen Refusal) → ReadWide read → Says changes read → AreShown changes.added changes.shown
says_wide changes (Ok seen) wide is = λ p any.
    sym (list_any-IsPermutation p seen.shown changes.shown is.shown) ∙ wide p (list_any-IsPermutation p seen.added changes.added is.added ∙ any)
says_wide changes (Err it) wide is = absurd is

-- ---- modes

row_shown : (changes : Changes) (file : Option ℕ) (first last : ℕ) → AreShown changes.added changes.shown → has_row_of changes.added file first last ≡ true
    → has_row_of changes.shown file first last ≡ true
row_shown changes None first last wide is = is
row_shown changes (Some file) first last wide is = wide (is_within file first last) is

rows_shown : (changes : Changes) (file : List ℕ) (at : Option (ℕ × ℕ)) → AreShown changes.added changes.shown → touches_rows changes rows.Added file at ≡ true
    → touches_rows changes rows.Shown file at ≡ true
rows_shown changes file None wide is = is
rows_shown changes file (Some at) wide is = row_shown changes (number_of changes.files file) at.0 at.1 wide is

row_filed : (found : List FileRow) (file : Option ℕ) (first last : ℕ) → has_row_of found file first last ≡ true → is_some file ≡ true
row_filed found None first last is = is
row_filed found (Some file) first last is = refl

rows_filed : (changes : Changes) (set : RowSet) (file : List ℕ) (at : Option (ℕ × ℕ)) → touches_rows changes set file at ≡ true → has_file changes file ≡ true
rows_filed changes set file None is = is
rows_filed changes set file (Some at) is = row_filed (rows_in changes set) (number_of changes.files file) at.0 at.1 is

pub added_shown : (changes : Changes) (it : FindingParts) (strip : Option ℕ) (diff : List ℕ) → Says changes (seen_in strip diff) → is_changed changes mode.Added it ≡ true
    → is_changed changes mode.DiffContext it ≡ true
unfolding is_changed
added_shown changes it strip diff says is =
    or_both (length it.file == 0) (length it.file == 0) _ _ (λ e. e) (rows_shown changes it.file (rows_of it.start it.end) (says_wide changes (seen_in strip diff) (diff_wide strip diff) says)) is

pub shown_filed : (changes : Changes) (it : FindingParts) → is_changed changes mode.DiffContext it ≡ true → is_changed changes mode.File it ≡ true
unfolding is_changed
shown_filed changes it is =
    or_both (length it.file == 0) (length it.file == 0) _ _ (λ e. e) (rows_filed changes rows.Shown it.file (rows_of it.start it.end)) is

pub all_left : (changes : Changes) (it : FindingParts) → is_changed changes mode.NoFilter it ≡ true
unfolding is_changed
all_left changes it = or_second (length it.file == 0) true refl
