-- One text in another.
use Rattle.std.specs.Prelude.{◌≡◌, ℕ, ◌+◌, ◌-◌, ◌<◌, ◌≤◌, List, length, slice_index}

-- each character of `core` is in `text`, from a place on
abbrev pub IsAt : List ℕ → List ℕ → ℕ → Type 0
IsAt core text place = (k : ℕ) → k < length core → slice_index core k ≡ slice_index text (place + k)

pub record IsPlace (core text : List ℕ) (place : ℕ) : Type 0 where
  pub within : place + length core ≤ length text
  pub same : IsAt core text place

pub record IsOnlyPlace (core text : List ℕ) (place : ℕ) : Type 0 where
  pub here : IsPlace core text place
  pub only : (other : ℕ) → IsPlace core text other → other ≡ place

abbrev pub HasNoOnlyPlace : List ℕ → List ℕ → Type 0
HasNoOnlyPlace core text = (place : ℕ) → IsOnlyPlace core text place → ⊥

-- the first `len` characters of `core` are the last ones before `end` in `text`
pub record EndsWith (core text : List ℕ) (end len : ℕ) : Type 0 where
  pub fits : len ≤ end
  pub same : (k : ℕ) → k < len → slice_index core k ≡ slice_index text (end - len + k)

-- the longest beginning of `core`, below a length, that the text before `end` ends with
pub record IsLongest (core text : List ℕ) (below end len : ℕ) : Type 0 where
  pub ends : EndsWith core text end len
  pub less : len < below
  pub most : (other : ℕ) → other < below → EndsWith core text end other → other ≤ len

-- for each length up to one, the longest shorter beginning that this one ends with
pub record AreBorders (core borders : List ℕ) (to : ℕ) : Type 0 where
  pub len : to < length borders
  pub each : (n : ℕ) → 0 < n → n ≤ to → IsLongest core core n n (slice_index borders n)

-- what a text ends with after a character, if it ended with `len` characters of `core` before
pub record IsNext (core : List ℕ) (len c next : ℕ) : Type 0 where
  pub small : next ≤ len + 1
  pub ends : 0 < next → EndsWith core core len (next - 1)
  pub last : 0 < next → slice_index core (next - 1) ≡ c
  pub most : (other : ℕ) → EndsWith core core len other → slice_index core other ≡ c → other < next
