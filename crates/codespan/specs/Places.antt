-- What the questions about places are answered.
use Rattle.std.specs.Prelude.{◌≡◌, ℕ, List}
use Rattle.std.specs.Str.{IsCharBoundary}
use Rattle.codespan.specs.Spans.{Extent}
use Rattle.codespan.specs.Lines.{line_of, column_of, bytes_of}
use Rattle.codespan.specs.declared.location.Location.{Location}

-- the line and the column of a boundary
abbrev pub IsLocation : List ℕ → ℕ → Location → Type 0
IsLocation text place location =
    IsCharBoundary text place × (location.line.0 ≡ line_of text place) × (location.column.0 ≡ column_of text place)

-- the bytes between two boundaries
abbrev pub IsSlice : List ℕ → Extent → List ℕ → Type 0
IsSlice text span slice = IsCharBoundary text span.start × IsCharBoundary text span.end × (slice ≡ bytes_of text span)
