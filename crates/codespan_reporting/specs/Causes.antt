-- Why a question about a file is refused.
use Rattle.std.specs.Prelude.{◌≡◌, ℕ, ◌+◌, ◌-◌, ◌<◌, ◌≤◌, ◌⊎◌, ◌==◌, nat_lt, List, length, if◌then◌else◌}
use Rattle.std.specs.Str.{IsCharBoundary}
use Rattle.codespan_reporting.specs.declared.files.Error.{Error}
use Rattle.codespan_reporting.specs.declared.files.Error.TheVariants.{IndexTooLarge, LineTooLarge, InvalidCharBoundary}

-- the place of the last byte, and 0 for an empty text
abbrev pub last_index : List ℕ → ℕ
last_index text = length text - 1

-- there is no such line among so many; a line just past the last is named by the line after it
abbrev pub IsLineRefusal : ℕ → ℕ → Error → Type 0
IsLineRefusal lines line (LineTooLarge given max) = (lines ≤ line) × (given ≡ (if line == lines then line + 1 else line)) × (max ≡ lines)
IsLineRefusal lines line (IndexTooLarge given max) = ⊥
IsLineRefusal lines line (InvalidCharBoundary given) = ⊥

-- the place is past the end of the text, or else inside a character
abbrev pub IsPlaceRefusal : List ℕ → ℕ → Error → Type 0
IsPlaceRefusal text place (IndexTooLarge given max) = (length text < place) × (given ≡ place) × (max ≡ last_index text)
IsPlaceRefusal text place (InvalidCharBoundary given) = (place ≤ length text) × ¬ IsCharBoundary text place × (given ≡ place)
IsPlaceRefusal text place (LineTooLarge given max) = ⊥

-- the span goes past the end of the text, or else one of its ends, the first that does, is inside a character
abbrev pub IsSpanRefusal : List ℕ → ℕ → ℕ → Error → Type 0
IsSpanRefusal text start end (IndexTooLarge given max) =
    (length text < end) × (given ≡ (if nat_lt (last_index text) start then start else end)) × (max ≡ last_index text)
IsSpanRefusal text start end (InvalidCharBoundary given) =
    (end ≤ length text) × ((¬ IsCharBoundary text start × (given ≡ start)) ⊎ (IsCharBoundary text start × ¬ IsCharBoundary text end × (given ≡ end)))
IsSpanRefusal text start end (LineTooLarge given max) = ⊥
