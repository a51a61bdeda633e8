-- A text that is seen to fit on one line.
use Rattle.std.specs.Prelude.{◌≡◌, ◌==◌, ℕ, ◌-◌, ◌≤◌, false, List, All, length, slice_index}

-- a text of no more bytes than the room, without LF, which does not end with a space
pub record FitsOnLine (room : ℕ) (text : List ℕ) : Type 0 where
  pub fits : length text ≤ room
  pub whole : All (λ byte. (byte == 0x0A) ≡ false) text
  pub closed : (slice_index text (length text - 1) == 0x20) ≡ false
