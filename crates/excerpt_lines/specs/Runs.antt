-- Runs of characters of one class, and numbers.
use Rattle.std.specs.Prelude.{◌≡◌, ℕ, ◌+◌, ◌-◌, ◌*◌, ◌^◌, ◌<◌, ◌≤◌, nat_lt, if◌then◌else◌, true, List, [], ◌∷◌, drop, slice_index, Option, Some, None}
use Rattle.std.specs.List.{prefix_len}
use Rattle.excerpt_lines.specs.declared.tables.CharClass.{CharClass}
use Rattle.excerpt_lines.specs.declared.tables.CharClass.TheVariants.{Blank}
use Rattle.excerpt_lines.specs.Tables.{is_in}

-- each character of a line between two places is of a class
abbrev pub EachIn : CharClass → List ℕ → ℕ → ℕ → Type 0
EachIn class line from to = (k : ℕ) → from ≤ k → k < to → is_in class (slice_index line k) ≡ true

-- where the characters of a class end that follow from a place on
unfoldable pub run_end : CharClass → List ℕ → ℕ → ℕ
run_end class line at = at + prefix_len (is_in class) (drop at line)

-- the place of the first character that is no blank
abbrev pub first_ink : List ℕ → ℕ
first_ink line = run_end Blank line 0

-- the number that digits go on to write
abbrev pub value_from : ℕ → List ℕ → ℕ
value_from value [] = value
value_from value (digit ∷ digits) = value_from (value * 10 + (digit - 0x30)) digits

-- a number, if it is one of 32 bits
abbrev pub small : ℕ → Option ℕ
small n = if nat_lt n (2 ^ 32) then Some n else None
