-- Characters, counted by their first bytes.
use Rattle.std.specs.Prelude.{ℕ, nat_lt, nat_le, ◌||◌, Bool}
pub use Rattle.bytecount.specs.Counts.{char_count}

-- the top two bits of a byte are not 10, so that a character begins with it
abbrev pub is_char_start : ℕ → Bool
is_char_start byte = nat_lt byte 128 || nat_le 192 byte
