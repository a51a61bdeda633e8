-- What is counted.
use Rattle.std.specs.Prelude.{ℕ, ◌/◌, ◌^◌, Bool, List, count_by, ◌==◌, not}

-- a byte begins a character where its two top bits, its highest quarter, aren't 10
abbrev pub begins_char : ℕ → Bool
begins_char byte = not (byte / 2 ^ 6 == 2)

-- how many characters begin in a list of bytes
unfoldable pub char_count : List ℕ → ℕ
char_count bytes = count_by begins_char bytes
