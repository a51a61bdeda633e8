-- The rows of a suggestion as an edit of the source, as a value.
use Rattle.std.specs.Prelude.{ℕ, ◌+◌, ◌-◌, ◌==◌, ◌&&◌, ◌||◌, not, nat_lt, if◌then◌else◌, Bool, true, false, List, [], ◌∷◌, length, map, filter, slice_range, slice_get, Option, Some, None, option_to_list}
use Rattle.std.specs.Cmp.Lexicographic.{pointwise}
use Rattle.std.specs.List.{find, flat_map, list_all, prefix_len, suffix_len, sum_by}
use Rattle.std.specs.Option.{is_some, option_and_then, option_copied}
use Rattle.excerpt_rows.specs.declared.hunk.Sign.{Sign}
use Rattle.excerpt_rows.specs.declared.hunk.Sign.TheVariants.{Unsigned, Added, Removed, Changed}
use Rattle.excerpt_rows.specs.declared.hunk.Marked.{Marked}
use Rattle.excerpt_rows.specs.declared.hunk.HunkRow.{HunkRow}
use Rattle.excerpt_rows.specs.declared.hunk.Edit.{Edit}
use Rattle.excerpt_rows.specs.Aligned.{alignment_of, begins_with}
use Rattle.excerpt_rows.specs.Ends.{is_blank}
use Rattle.excerpt_rows.specs.Hunk.{is_changed_by, left_of, stays_by, taken_by}

-- what a row of a suggestion says
pub record HunkRowView : Type 0 where
  pub sign : Sign
  pub number : Option ℕ
  pub text : List ℕ
  pub marks : List Marked
  pub source : Option (List ℕ)

abbrev pub row_view : HunkRow → HunkRowView
row_view row = record { sign = row.sign; number = row.number; text = row.text.now; marks = row.marks.now; source = option_copied row.source }

-- what an edit says
pub record EditParts : Type 0 where
  pub first : ℕ
  pub count : ℕ
  pub rows : List (List ℕ)

abbrev pub edit_parts : Edit → EditParts
edit_parts edit = record { first = edit.first; count = edit.count; rows = map (λ row. row.now) edit.rows.items }

-- ---- one row

abbrev pub has_marks : HunkRowView → Bool
has_marks row = nat_lt 0 (length row.marks)

-- how many rows of the source it takes
abbrev pub takes : HunkRowView → ℕ
takes row = taken_by row.sign

abbrev pub takes_some : HunkRowView → Bool
takes_some row = nat_lt 0 (takes row)

-- the row that comes of it
abbrev pub gives_by : Sign → HunkRowView → Option (List ℕ)
gives_by Unsigned row = if has_marks row then Some row.text else row.source
gives_by Added row = Some row.text
gives_by Removed row = None
gives_by Changed row = None

abbrev pub gives : HunkRowView → List (List ℕ)
gives row = option_to_list (gives_by row.sign row)

-- a row of the source that doesn't change
abbrev pub stays : HunkRowView → Bool
stays row = stays_by row.sign && not (has_marks row)

-- three dots follow one another
abbrev pub has_dots : List ℕ → Bool
has_dots [] = false
has_dots (c ∷ cs) = begins_with (c ∷ cs) (0x2E ∷ 0x2E ∷ 0x2E ∷ []) || has_dots cs

abbrev pub is_exact : HunkRowView → Bool
is_exact row = not (is_changed_by row.sign) && (not (has_dots row.text) && list_all (λ mark. mark.added) row.marks)

abbrev pub of_source : (List ℕ → Bool) → Option (List ℕ) → Bool
of_source test None = false
of_source test (Some source) = test source

-- it is the source's row
abbrev pub is_kept : HunkRowView → Bool
is_kept row = of_source (λ source. is_some (alignment_of row.text source)) row.source

-- without what is marked it is the source's row, but for blanks
abbrev pub is_restored : HunkRowView → Bool
is_restored row = of_source (λ source. pointwise (λ a b. a == b) (left_of row.marks 0 row.text) (filter (λ c. not (is_blank c)) source)) row.source

abbrev pub has_number : Option ℕ → ℕ → Bool
has_number None n = false
has_number (Some number) n = number == n

abbrev pub has_no_other : Option ℕ → ℕ → Bool
has_no_other None n = true
has_no_other (Some number) n = number == n

-- a row goes on at these numbers, of the source and of what comes of it
abbrev pub goes_by : Sign → HunkRowView → ℕ → ℕ → Bool
goes_by Unsigned row old new = has_number row.number old && (if has_marks row then is_restored row else is_kept row)
goes_by Added row old new = has_no_other row.number new
goes_by Removed row old new = has_number row.number old && is_kept row
goes_by Changed row old new = false

abbrev pub go_on : List HunkRowView → ℕ → ℕ → Bool
go_on [] old new = true
go_on (row ∷ rows) old new = goes_by row.sign row old new && go_on rows (old + takes row) (new + length (gives row))

-- ---- a hunk

-- the rows from the first to the last change
abbrev pub changes_at : List HunkRowView → ℕ
changes_at rows = prefix_len stays rows

abbrev pub changes_end : List HunkRowView → ℕ
changes_end rows = length rows - suffix_len stays rows

abbrev pub changes : List HunkRowView → List HunkRowView
changes rows = slice_range rows (changes_at rows) (changes_end rows)

abbrev pub number_of : List HunkRowView → ℕ → Option ℕ
number_of rows k = option_and_then (λ row. row.number) (slice_get rows k)

-- the number of the first row of the source there; without one, the first number of a new row, the
-- number after the row before, or that of the row after
abbrev pub first_by : Option HunkRowView → Option ℕ → Option ℕ → Option ℕ → Option ℕ
first_by (Some row) own before after = row.number
first_by None (Some own) before after = Some own
first_by None None (Some before) after = Some (before + 1)
first_by None None None after = after

abbrev pub first_in : List HunkRowView → Option ℕ
first_in rows =
    first_by (find takes_some (changes rows)) (number_of rows (changes_at rows))
    (if nat_lt 0 (changes_at rows) then number_of rows (changes_at rows - 1) else None) (number_of rows (changes_end rows))

-- what rows replace from a number on
abbrev pub edit_at : List HunkRowView → ℕ → EditParts
edit_at rows first = record { first = first; count = sum_by takes rows; rows = flat_map gives rows }

abbrev pub edit_from : List HunkRowView → Option ℕ → Option EditParts
edit_from rows None = None
edit_from rows (Some first) = if nat_lt 0 first && go_on rows first first then Some (edit_at rows first) else None

-- what the rows of a hunk replace, if they are an exact edit
unfoldable pub edit_in : List HunkRowView → Option EditParts
edit_in rows = if list_all is_exact rows && nat_lt (changes_at rows) (changes_end rows) then edit_from (changes rows) (first_in rows) else None
