-- Parts of lines, and what is counted in them.
use Rattle.std.specs.Prelude.{◌≡◌, ℕ, ◌≤◌, List, length, slice_range}
use Rattle.std.specs.Str.{IsCharBoundary}
use Rattle.source_location.specs.Breaks.{breaks_of}
use Rattle.source_location.specs.Rows.{row_of}
use Rattle.utf16_places.specs.Units.{utf16_units}
use Rattle.text_places.specs.Places.{line_start_of}
use Rattle.utf16_places.specs.Index.{AreWideOf}
use Rattle.utf16_places.specs.declared.wide.WideCharacter.{WideCharacter}
use Rattle.utf16_places.specs.declared.wide.Counted.{Counted}

-- a part of a line: from where it starts up to a boundary of it
pub record IsLinePart (text : List ℕ) (start limit : ℕ) : Type 0 where
  pub boundary : IsCharBoundary text limit
  pub line : line_start_of text limit ≡ start

-- a boundary of such a part, and how many units of the line are before it
pub record IsCounted (text : List ℕ) (start limit : ℕ) (counted : Counted) : Type 0 where
  pub boundary : IsCharBoundary text counted.offset
  pub from : start ≤ counted.offset
  pub up_to : counted.offset ≤ limit
  pub unit : counted.unit ≡ utf16_units (slice_range text start counted.offset)

-- the characters are those of some text
pub record AreWide (wide : List WideCharacter) : Type 0 where
  pub text : List ℕ
  pub known : AreWideOf text wide

-- the characters are those of some text, of which that is a part of a line
pub record AreWideWithPart (wide : List WideCharacter) (start limit : ℕ) : Type 0 where
  pub text : List ℕ
  pub known : AreWideOf text wide
  pub part : IsLinePart text start limit

-- the last offset in a line, and a boundary
pub record IsLastIn (text : List ℕ) (line offset : ℕ) : Type 0 where
  pub boundary : IsCharBoundary text offset
  pub row : row_of (breaks_of text) offset ≡ line
  pub last : (other : ℕ) → other ≤ length text → row_of (breaks_of text) other ≡ line → other ≤ offset
