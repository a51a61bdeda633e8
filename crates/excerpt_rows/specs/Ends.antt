-- The ends of a row.
use Rattle.std.specs.Prelude.{◌≡◌, ◌⊎◌, ℕ, ◌+◌, ◌-◌, ◌<◌, ◌≤◌, ◌==◌, ◌||◌, Bool, List, length, slice_range}
use Rattle.std.specs.List.{prefix_len, suffix_len}
use Rattle.excerpt_rows.specs.declared.ends.Edge.{Edge}
use Rattle.excerpt_rows.specs.declared.ends.Edge.TheVariants.{Blank, Dot}

abbrev pub is_blank : ℕ → Bool
is_blank c = (c == 0x20) || (c == 0x09)

abbrev pub is_in : Edge → ℕ → Bool
is_in Blank c = is_blank c
is_in Dot c = c == 0x2E

abbrev pub first_of : Edge → List ℕ → ℕ
first_of edge text = prefix_len (is_in edge) text

abbrev pub last_of : Edge → List ℕ → ℕ
last_of edge text = length text - suffix_len (is_in edge) text

-- a row without the blanks at both ends
unfoldable pub ink : List ℕ → List ℕ
ink row = slice_range row (first_of Blank row) (last_of Blank row)

-- three dots or more are at one end of it
abbrev pub IsDotted : List ℕ → Type 0
IsDotted row = (3 ≤ first_of Dot (ink row)) ⊎ (3 ≤ length (ink row) - last_of Dot (ink row))

-- what is left without the dots at both ends
abbrev pub core_start : List ℕ → ℕ
core_start row = first_of Blank row + first_of Dot (ink row)

abbrev pub core_end : List ℕ → ℕ
core_end row = first_of Blank row + last_of Dot (ink row)

abbrev pub core : List ℕ → List ℕ
core row = slice_range row (core_start row) (core_end row)

pub record IsCore (row : List ℕ) (range : ℕ × ℕ) : Type 0 where
  pub dotted : IsDotted row
  pub start : range.0 ≡ core_start row
  pub end : range.1 ≡ core_end row
  pub some : range.0 < range.1
  pub within : range.1 ≤ length row

abbrev pub HasNoCore : List ℕ → Type 0
HasNoCore row = IsDotted row → core_start row < core_end row → ⊥
