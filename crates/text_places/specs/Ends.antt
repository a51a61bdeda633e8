-- Where rows end in a text.
use Rattle.std.specs.Prelude.{◌≡◌, ℕ, ◌+◌, ◌-◌, ◌<◌, ◌≤◌, List, length, slice_index_or}
use Rattle.source_location.specs.Breaks.{breaks_of}
use Rattle.source_location.specs.Rows.{row_of}

-- the place behind the row end of that number, from 1
pub record IsRowEnd (bytes : List ℕ) (row place : ℕ) : Type 0 where
  pub some : 1 ≤ place
  pub within : place ≤ length bytes
  pub low : row_of (breaks_of bytes) (place - 1) < row
  pub high : row ≤ row_of (breaks_of bytes) place

-- the places behind the first row ends, in order
abbrev pub AreFirstEnds : List ℕ → List ℕ → Type 0
AreFirstEnds bytes ends = (k d : ℕ) → k < length ends → IsRowEnd bytes (k + 1) (slice_index_or ends k d)

-- the places behind all row ends
pub record AreEnds (bytes ends : List ℕ) : Type 0 where
  pub all : length ends ≡ length (breaks_of bytes)
  pub each : AreFirstEnds bytes ends
