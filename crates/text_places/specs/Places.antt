-- Lines and units, both from 0, and the ways back.
use Rattle.std.specs.Prelude.{◌≡◌, ◌⊎◌, false, ℕ, ◌-◌, ◌<◌, ◌≤◌, List, length, map, slice_index_or, slice_range, Option, MatchOption, if◌then◌else◌}
use Rattle.std.specs.Str.{IsCharBoundary}
use Rattle.source_location.specs.Breaks.{breaks_of}
use Rattle.source_location.specs.Rows.{row_of, row_start, is_second_byte}
use Rattle.text_places.specs.Encodings.{units}
use Rattle.text_places.specs.declared.encoding.Encoding.{Encoding}
use Rattle.text_places.specs.declared.place.Place.{Place}

-- where the row of an offset starts
unfoldable pub line_start_of : List ℕ → ℕ → ℕ
line_start_of text offset = row_start (length text) (breaks_of text) (row_of (breaks_of text) offset)

-- the place of an offset: its row, and the units of the characters of the row before it
unfoldable pub place_at : Encoding → List ℕ → ℕ → Place
place_at encoding text offset = record { line = row_of (breaks_of text) offset; unit = units encoding (slice_range text (line_start_of text offset) offset) }

-- the offset at which a client sees an offset: the LF of a CRLF is its CR
unfoldable pub client_offset : List ℕ → ℕ → ℕ
client_offset text offset = if is_second_byte (breaks_of text) offset then offset - 1 else offset

-- a place comes before another: it has an earlier line, or the same line and an earlier unit
abbrev pub IsBefore : Place → Place → Type 0
IsBefore place other = (place.line < other.line) ⊎ ((place.line ≡ other.line) × (place.unit < other.unit))

-- the answer is the one boundary with the place, or none where no boundary has it
abbrev pub IsOffsetOf : Encoding → List ℕ → Place → Option ℕ → Type 0
IsOffsetOf encoding text place answer =
    MatchOption answer
    ((offset : ℕ) → IsCharBoundary text offset → ¬ (place_at encoding text offset ≡ place))
    (λ found. IsCharBoundary text found × (place_at encoding text found ≡ place)
    × ((offset : ℕ) → IsCharBoundary text offset → place_at encoding text offset ≡ place → offset ≡ found))

-- where a line starts
abbrev pub line_begin : List ℕ → ℕ → ℕ
line_begin text line = row_start (length text) (breaks_of text) line

-- where a line's break begins, and the text's end for a line without one
unfoldable pub line_end : List ℕ → ℕ → ℕ
line_end text line = slice_index_or (map (λ b. b.start) (breaks_of text)) line (length text)

-- the offset is a boundary of the line that is not behind where its break begins, and its unit is at most the asked one
pub record IsUpTo (encoding : Encoding) (text : List ℕ) (place : Place) (offset : ℕ) : Type 0 where
  pub boundary : IsCharBoundary text offset
  pub line : (place_at encoding text offset).line ≡ place.line
  pub before_break : offset ≤ line_end text place.line
  pub unit : (place_at encoding text offset).unit ≤ place.unit

-- a boundary at which no CRLF is parted
abbrev pub PartsNoCrlf : List ℕ → ℕ → Type 0
PartsNoCrlf text offset = IsCharBoundary text offset × (is_second_byte (breaks_of text) offset ≡ false)

-- the answer is the text's end where the line is past the last one, and else the largest such boundary of the line
pub record IsNearest (encoding : Encoding) (text : List ℕ) (place : Place) (answer : ℕ) : Type 0 where
  pub past : length (breaks_of text) < place.line → answer ≡ length text
  pub up_to : place.line ≤ length (breaks_of text) → IsUpTo encoding text place answer
  pub largest : place.line ≤ length (breaks_of text) → (offset : ℕ) → IsUpTo encoding text place offset → offset ≤ answer

-- the nearest boundaries to two places
pub record AreNearest (encoding : Encoding) (text : List ℕ) (from to : Place) (start end : ℕ) : Type 0 where
  pub start_nearest : IsNearest encoding text from start
  pub end_nearest : IsNearest encoding text to end
  pub start_boundary : IsCharBoundary text start
  pub end_boundary : IsCharBoundary text end

-- where a line lies, without its break
pub record IsLineRange (text : List ℕ) (line start end : ℕ) : Type 0 where
  pub begins : start ≡ line_begin text line
  pub ends : end ≡ line_end text line
  pub ordered : start ≤ end
