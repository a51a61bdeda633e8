-- UTF-16 units.
use Rattle.std.specs.Prelude.{ℕ, nat_lt, List, sum_by, chars, if◌then◌else◌}

-- how many units a character takes: one, or two past U+FFFF
abbrev pub units_of : ℕ → ℕ
units_of character = if nat_lt character 0x1_0000 then 1 else 2

-- how many units the characters of a text take
unfoldable pub utf16_units : List ℕ → ℕ
utf16_units text = sum_by units_of (chars text)
