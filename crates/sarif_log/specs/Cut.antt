-- A log among other lines.
use Rattle.std.specs.Prelude.{◌≡◌, ◌≢◌, ℕ, ◌-◌, ◌<◌, ◌≤◌, ◌==◌, ◌&&◌, ◌||◌, nat_eq, Bool, true, List, [], ◌∷◌, length, slice_index}
use Rattle.std.specs.List.{starts_with}
use Rattle.std.specs.declared.ops.Range.{Range}

-- a line begins there: at the first byte, behind a LF, or behind a byte order mark at the first byte
abbrev pub begins : List ℕ → ℕ → Bool
begins bytes at = at == 0 || (slice_index bytes (at - 1) == 0x0A || (at == 3 && starts_with nat_eq bytes (0xEF ∷ 0xBB ∷ 0xBF ∷ [])))

-- a brace opens a line there
unfoldable pub opens : List ℕ → ℕ → Bool
opens bytes at = slice_index bytes at == 0x7B && begins bytes at

pub record IsFirstOpening (bytes : List ℕ) (at : ℕ) : Type 0 where
  pub within : at < length bytes
  pub opening : opens bytes at ≡ true
  pub first : (k : ℕ) → k < at → opens bytes k ≢ true

pub record IsLastClosing (bytes : List ℕ) (at : ℕ) : Type 0 where
  pub within : at < length bytes
  pub closing : slice_index bytes at ≡ 0x7D
  pub last : (k : ℕ) → at < k → slice_index bytes k ≢ 0x7D

-- from the first brace that opens a line up to and with the last one that closes
pub record IsLogIn (bytes : List ℕ) (range : Range ℕ) : Type 0 where
  pub some : range.start < range.end
  pub from : IsFirstOpening bytes range.start
  pub upto : IsLastClosing bytes (range.end - 1)

-- no brace closes at or behind one that opens a line
abbrev pub HasNoLog : List ℕ → Type 0
HasNoLog bytes = (from upto : ℕ) → opens bytes from ≡ true → from ≤ upto → slice_index bytes upto ≢ 0x7D
