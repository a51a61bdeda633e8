-- The lines of a text, by the list of the places at which they start.
use Rattle.std.specs.Prelude.{◌≡◌, ℕ, ◌+◌, ◌-◌, ◌<◌, ◌≤◌, nat_le, List, length, Some, All, count_by, slice_get, slice_index_or, slice_range}
use Rattle.std.specs.Str.{IsCharBoundary}
use Rattle.std.specs.List.Sorted.{IsStrictlyIncreasing}

-- a list that can say where the lines of the text start: the first at 0, then rising, each at a boundary
pub record AreLineStarts (text starts : List ℕ) : Type 0 where
  pub first : slice_get starts 0 ≡ Some 0
  pub rising : IsStrictlyIncreasing starts
  pub boundaries : All (IsCharBoundary text) starts

-- the line of a place, from 0: the last one that starts no later
unfoldable pub line_at : List ℕ → ℕ → ℕ
line_at starts place = count_by (λ start. nat_le start place) starts - 1

-- where a line starts; the text's end past the last line
abbrev pub line_start : List ℕ → ℕ → ℕ → ℕ
line_start starts size line = slice_index_or starts line size

-- a line that the text has, from its first byte to the end of its break
abbrev pub IsLineRange : List ℕ → List ℕ → ℕ → ℕ → ℕ → Type 0
IsLineRange text starts line start end =
    (line < length starts) × (start ≡ line_start starts (length text) line) × (end ≡ line_start starts (length text) (line + 1)) × (start ≤ end)

-- the bytes of a line, its break included
abbrev pub line_bytes : List ℕ → List ℕ → ℕ → List ℕ
line_bytes text starts line = slice_range text (line_start starts (length text) line) (line_start starts (length text) (line + 1))
