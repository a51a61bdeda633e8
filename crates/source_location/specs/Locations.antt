-- Rows and columns of a text, both from 1, and the way back.
use Rattle.std.specs.Prelude.{◌≡◌, ℕ, ◌+◌, ◌≤◌, ◌==◌, ◌&&◌, ◌||◌, nat_le, Bool, List, length, slice_index, slice_range, Option, Some, MatchOption, if◌then◌else◌, reverse}
use Rattle.std.specs.List.{find, range_with_len}
use Rattle.std.specs.Str.{IsCharBoundary}
use Rattle.source_location.specs.Breaks.{breaks_of}
use Rattle.source_location.specs.Rows.{row_of, row_start}
use Rattle.source_location.specs.Characters.{is_char_start, char_count}
use Rattle.source_location.specs.declared.SourceLocation.{SourceLocation}

-- the text begins with a byte order mark
abbrev pub begins_with_mark : List ℕ → Bool
begins_with_mark text = (slice_index text 0 == 0xEF) && (slice_index text 1 == 0xBB) && (slice_index text 2 == 0xBF)

-- where the columns of a row are counted from: its start, and on the first row past a byte order mark
unfoldable pub counted_from : List ℕ → ℕ → ℕ
counted_from text row = if (row == 0) && begins_with_mark text then 3 else row_start (length text) (breaks_of text) row

-- the location of an offset: its row, and one more than the characters of the row before it
unfoldable pub location_of : List ℕ → ℕ → SourceLocation
location_of text offset =
    let row = row_of (breaks_of text) offset in
    record { row = row + 1; column = char_count (slice_range text (counted_from text row) offset) + 1 }

-- the answer is the largest boundary with the location, or none where no boundary has it
abbrev pub IsOffsetAt : List ℕ → SourceLocation → Option ℕ → Type 0
IsOffsetAt text place answer =
    MatchOption answer
    ((offset : ℕ) → IsCharBoundary text offset → ¬ (location_of text offset ≡ place))
    (λ found. IsCharBoundary text found × (location_of text found ≡ place)
    × ((offset : ℕ) → IsCharBoundary text offset → location_of text offset ≡ place → offset ≤ found))

-- whether a place of a text is a boundary
abbrev pub is_boundary : List ℕ → ℕ → Bool
is_boundary text offset = nat_le (length text) offset || is_char_start (slice_index text offset)

-- whether an offset has the location
abbrev pub has_location : List ℕ → SourceLocation → ℕ → Bool
has_location text place offset = ((location_of text offset).row == place.row) && ((location_of text offset).column == place.column)

-- that answer as a value: the first such boundary from the text's end down
unfoldable pub offset_at : List ℕ → SourceLocation → Option ℕ
offset_at text place = find (λ offset. is_boundary text offset && has_location text place offset) (reverse (range_with_len 0 (length text + 1)))

-- the law of the way back: each boundary is the offset of its own location, but for 0 before a byte order mark, where it is 3
abbrev pub LeadsBack : List ℕ → ℕ → Type 0
LeadsBack text offset = offset_at text (location_of text offset) ≡ Some (if (offset == 0) && begins_with_mark text then 3 else offset)
