-- Lines and UTF-16 units, both from 0, and the ways back.
use Rattle.std.specs.Prelude.{◌≡◌, ◌⊎◌, false, ℕ, ◌<◌, ◌≤◌, List, length, slice_range, Option, MatchOption}
use Rattle.std.specs.Str.{IsCharBoundary}
use Rattle.source_location.specs.Breaks.{breaks_of}
use Rattle.source_location.specs.Rows.{row_of, is_second_byte}
use Rattle.text_places.specs.Places.{line_end, line_start_of}
use Rattle.utf16_places.specs.Units.{utf16_units}
use Rattle.utf16_places.specs.declared.place.Place16.{Place16}

-- the place of an offset: its row, and the units of the characters of the row before it
unfoldable pub utf16_place : List ℕ → ℕ → Place16
utf16_place text offset = record { line = row_of (breaks_of text) offset; unit = utf16_units (slice_range text (line_start_of text offset) offset) }

-- a place comes before another: it has an earlier line, or the same line and an earlier unit
abbrev pub IsBefore : Place16 → Place16 → Type 0
IsBefore place other = (place.line < other.line) ⊎ ((place.line ≡ other.line) × (place.unit < other.unit))

-- the answer is the one boundary with the place, or none where no boundary has it
abbrev pub IsOffsetOf : List ℕ → Place16 → Option ℕ → Type 0
IsOffsetOf text place answer =
    MatchOption answer
    ((offset : ℕ) → IsCharBoundary text offset → ¬ (utf16_place text offset ≡ place))
    (λ found. IsCharBoundary text found × (utf16_place text found ≡ place)
    × ((offset : ℕ) → IsCharBoundary text offset → utf16_place text offset ≡ place → offset ≡ found))

-- the offset is a boundary of the line that is not behind where its break begins, and its unit is at most the asked one
pub record IsUpTo (text : List ℕ) (place : Place16) (offset : ℕ) : Type 0 where
  pub boundary : IsCharBoundary text offset
  pub line : (utf16_place text offset).line ≡ place.line
  pub before_break : offset ≤ line_end text place.line
  pub unit : (utf16_place text offset).unit ≤ place.unit

-- a boundary at which no CRLF is parted
abbrev pub PartsNoCrlf : List ℕ → ℕ → Type 0
PartsNoCrlf text offset = IsCharBoundary text offset × (is_second_byte (breaks_of text) offset ≡ false)

-- the answer is the text's end where the line is past the last one, and else the largest such boundary of the line
pub record IsNearest (text : List ℕ) (place : Place16) (answer : ℕ) : Type 0 where
  pub past : length (breaks_of text) < place.line → answer ≡ length text
  pub up_to : place.line ≤ length (breaks_of text) → IsUpTo text place answer
  pub largest : place.line ≤ length (breaks_of text) → (offset : ℕ) → IsUpTo text place offset → offset ≤ answer
