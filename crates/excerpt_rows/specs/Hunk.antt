-- The rows of a suggestion, as an edit.
use Rattle.std.specs.Prelude.{◌≡◌, ℕ, ◌+◌, ◌-◌, ◌<◌, ◌≤◌, ◌&&◌, ◌||◌, not, nat_lt, nat_le, if◌then◌else◌, Bool, true, false, List, [], ◌∷◌, ◌++◌, length, take, drop, map, filter, slice_range, slice_get, slice_index, Option, Some, None, IfSome, IsSomeAnd, MatchBool, SomeIndex, option_to_list}
use Rattle.std.specs.List.{find, flat_map, list_all, list_any, prefix_len, suffix_len, sum_by}
use Rattle.std.specs.Option.{option_copied, option_and_then}
use Rattle.excerpt_rows.specs.declared.alignment.TheConstants.{LIMIT}
use Rattle.excerpt_rows.specs.declared.alignment.Shift.{Shift}
use Rattle.excerpt_rows.specs.declared.expansion.Rule.{Rule}
use Rattle.excerpt_rows.specs.declared.hunk.Sign.{Sign}
use Rattle.excerpt_rows.specs.declared.hunk.Sign.TheVariants.{Unsigned, Added, Removed, Changed}
use Rattle.excerpt_rows.specs.declared.hunk.Marked.{Marked}
use Rattle.excerpt_rows.specs.declared.hunk.HunkRow.{HunkRow}
use Rattle.excerpt_rows.specs.declared.hunk.Edit.{Edit}
use Rattle.excerpt_rows.specs.Alignment.{IsPrintedBy}
use Rattle.excerpt_rows.specs.Ends.{is_blank}
use Rattle.excerpt_rows.specs.Expansion.{rules}

-- ---- one row

abbrev pub is_marked : HunkRow → Bool
is_marked row = nat_lt 0 (length row.marks.now)

-- how many rows of the source a row takes
abbrev pub taken_by : Sign → ℕ
taken_by Unsigned = 1
taken_by Added = 0
taken_by Removed = 1
taken_by Changed = 0

abbrev pub taken : HunkRow → ℕ
taken row = taken_by row.sign

-- the row that comes of it
abbrev pub given_by : Sign → HunkRow → Option (List ℕ)
given_by Unsigned row = if is_marked row then Some row.text.now else option_copied row.source
given_by Added row = Some row.text.now
given_by Removed row = None
given_by Changed row = None

abbrev pub given : HunkRow → Option (List ℕ)
given row = given_by row.sign row

-- a printed row is this row of the source
pub record IsAligned (printed source : List ℕ) : Type 0 where
  pub printed_short : length printed ≤ LIMIT
  pub source_short : length source ≤ LIMIT
  pub rule : Rule
  pub shift : Shift
  pub by : IsPrintedBy rules printed source rule shift

abbrev pub IsSourceRow : HunkRow → Type 0
IsSourceRow row = IsSomeAnd row.source (λ source. IsAligned row.text.now source.now)

-- marks cover a character
abbrev pub covers : ℕ → Marked → Bool
covers k mark = nat_le mark.start k && nat_lt k mark.end

-- the characters from `k` on that are neither marked nor blank
unfoldable pub left_of : List Marked → ℕ → List ℕ → List ℕ
left_of marks k [] = []
left_of marks k (c ∷ cs) = (if list_any (covers k) marks || is_blank c then [] else c ∷ []) ++ left_of marks (k + 1) cs

-- without what is marked it is the source's row, but for blanks
abbrev pub Restores : HunkRow → Type 0
Restores row = IsSomeAnd row.source (λ source. left_of row.marks.now 0 row.text.now ≡ filter (λ c. not (is_blank c)) source.now)

-- ---- rows that change

-- a row goes on at these numbers, of the source and of what comes of it
abbrev pub StepBy : Sign → HunkRow → ℕ → ℕ → Type 0
StepBy Unsigned row old new = (row.number ≡ Some old) × MatchBool (is_marked row) (Restores row) (IsSourceRow row)
StepBy Added row old new = IfSome row.number (λ number. number ≡ new)
StepBy Removed row old new = (row.number ≡ Some old) × IsSourceRow row
StepBy Changed row old new = ⊥

abbrev pub IsStep : HunkRow → ℕ → ℕ → Type 0
IsStep row old new = StepBy row.sign row old new

unfoldable pub AreSteps : List HunkRow → ℕ → ℕ → Type 0
AreSteps [] old new = Unit {0}
AreSteps (row ∷ rows) old new = IsStep row old new × AreSteps rows (old + taken row) (new + length (option_to_list (given row)))

abbrev pub row_list : HunkRow → List (List ℕ)
row_list row = option_to_list (given row)

-- what rows replace from a number on
pub record IsSumOf (rows : List HunkRow) (first : ℕ) (edit : Edit) : Type 0 where
  pub at : edit.first ≡ first
  pub count : edit.count ≡ sum_by taken rows
  pub rows_are : map (λ row. row.now) edit.rows.items ≡ flat_map row_list rows

-- ---- a hunk

-- three dots follow one another
abbrev pub HasDots : List ℕ → Type 0
HasDots text = SomeIndex text (λ k. (2 ≤ k) × (slice_index text k ≡ 0x2E) × (slice_index text (k - 1) ≡ 0x2E) × (slice_index text (k - 2) ≡ 0x2E))

abbrev pub is_changed_by : Sign → Bool
is_changed_by Unsigned = false
is_changed_by Added = false
is_changed_by Removed = false
is_changed_by Changed = true

pub record IsExact (row : HunkRow) : Type 0 where
  pub sign : is_changed_by row.sign ≡ false
  pub dots : HasDots row.text.now → ⊥
  pub marks : list_all (λ mark. mark.added) row.marks.now ≡ true

abbrev pub AreExact : List HunkRow → Type 0
AreExact rows = (k : ℕ) (row : HunkRow) → slice_get rows k ≡ Some row → IsExact row

abbrev pub stays_by : Sign → Bool
stays_by Unsigned = true
stays_by Added = false
stays_by Removed = false
stays_by Changed = false

-- a row of the source that doesn't change
abbrev pub is_context : HunkRow → Bool
is_context row = stays_by row.sign && not (is_marked row)

-- the rows from the first to the last change
abbrev pub begin : List HunkRow → ℕ
begin rows = prefix_len is_context rows

abbrev pub end : List HunkRow → ℕ
end rows = length rows - suffix_len is_context rows

abbrev pub middle : List HunkRow → List HunkRow
middle rows = slice_range rows (begin rows) (end rows)

abbrev pub number_at : List HunkRow → ℕ → Option ℕ
number_at rows k = option_and_then (λ row. row.number) (slice_get rows k)

abbrev pub is_of_source : HunkRow → Bool
is_of_source row = nat_lt 0 (taken row)

-- the number of the first row of the source there; without one, the first number of a new row, the
-- number after the row before, or that of the row after
abbrev pub place_by : Option HunkRow → Option ℕ → Option ℕ → Option ℕ → Option ℕ
place_by (Some row) own before after = row.number
place_by None (Some own) before after = Some own
place_by None None (Some before) after = Some (before + 1)
place_by None None None after = after

abbrev pub place : List HunkRow → Option ℕ
place rows =
    place_by (find is_of_source (middle rows)) (number_at rows (begin rows))
    (if nat_lt 0 (begin rows) then number_at rows (begin rows - 1) else None) (number_at rows (end rows))

pub record IsPlaced (rows : List HunkRow) (first : ℕ) : Type 0 where
  pub exact : AreExact rows
  pub some : begin rows < end rows
  pub place_is : place rows ≡ Some first
  pub numbered : 0 < first
  pub steps : AreSteps (middle rows) first first

pub record IsEdit (rows : List HunkRow) (edit : Edit) : Type 0 where
  pub placed : IsPlaced rows edit.first
  pub sum : IsSumOf (middle rows) edit.first edit

abbrev pub HasNoEdit : List HunkRow → Type 0
HasNoEdit rows = (first : ℕ) → IsPlaced rows first → ⊥

-- ---- what an edit does

-- the row that a row is in the source
abbrev pub old_by : Sign → HunkRow → List (List ℕ)
old_by Unsigned row = option_to_list (option_copied row.source)
old_by Added row = []
old_by Removed row = option_to_list (option_copied row.source)
old_by Changed row = []

abbrev pub old_list : HunkRow → List (List ℕ)
old_list row = old_by row.sign row

-- the rows of a source are those that the rows of a hunk have with their numbers
abbrev pub Agrees : List HunkRow → List (List ℕ) → Type 0
Agrees rows source = (k : ℕ) (row : HunkRow) (number : ℕ) → slice_get rows k ≡ Some row → row.number ≡ Some number → option_copied row.source ≡ slice_get source (number - 1)

-- the rows of a source after an edit
abbrev pub applied : Edit → List (List ℕ) → List (List ℕ)
applied edit source = take (edit.first - 1) source ++ map (λ row. row.now) edit.rows.items ++ drop (edit.first - 1 + edit.count) source

-- the source had what the rows were, has what they are, and is otherwise the same
pub record IsDrawn (rows : List HunkRow) (first : ℕ) (old new : List (List ℕ)) : Type 0 where
  pub before : List (List ℕ)
  pub after : List (List ℕ)
  pub at : length before + 1 ≡ first
  pub was : before ++ flat_map old_list rows ++ after ≡ old
  pub becomes : before ++ flat_map row_list rows ++ after ≡ new

abbrev pub EditsAreDrawn : Type 0
EditsAreDrawn = (rows : List HunkRow) (edit : Edit) (source : List (List ℕ)) → IsEdit rows edit → Agrees (middle rows) source → edit.first ≤ length source + 1 → IsDrawn (middle rows) edit.first source (applied edit source)
