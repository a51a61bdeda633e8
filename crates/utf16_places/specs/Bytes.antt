-- What bytes tell of characters.
use Rattle.std.specs.Prelude.{ℕ, ◌<◌, ◌≤◌, nat_lt, List, length, slice_index, Option, MatchOption, if◌then◌else◌}

-- how many bytes a character past ASCII has, by its first one
abbrev pub bytes_by : ℕ → ℕ
bytes_by first = if nat_lt first 224 then 2 else if nat_lt first 240 then 3 else 4

-- how many units it takes
abbrev pub units_by : ℕ → ℕ
units_by first = if nat_lt first 240 then 1 else 2

-- the first byte past ASCII stands there
pub record IsPastAsciiAt (bytes : List ℕ) (at : ℕ) : Type 0 where
  pub within : at < length bytes
  pub past : 128 ≤ slice_index bytes at
  pub first : (k : ℕ) → k < at → slice_index bytes k < 128

-- the answer is the place of the first byte past ASCII, or none where there is none
abbrev pub IsFirstPastAscii : List ℕ → Option ℕ → Type 0
IsFirstPastAscii bytes answer = MatchOption answer ((k : ℕ) → k < length bytes → slice_index bytes k < 128) (λ at. IsPastAsciiAt bytes at)
