-- What is asked of a source of breaks, and how many bytes a search looks at.
use Rattle.std.specs.Prelude.{ℕ, ◌+◌, ◌-◌, nat_lt, nat_le, ◌==◌, ◌&&◌, not, Bool, List, slice_index, Option, Some, None, find, reverse}
use Rattle.oxc_windows.specs.declared.breaks.LineBreak.{LineBreak}

-- the first break that starts from a place to before another
unfoldable pub first_between : List LineBreak → ℕ → ℕ → Option LineBreak
first_between breaks from to = find (λ b. nat_le from b.start && nat_lt b.start to) breaks

-- the last break that ends before a place
unfoldable pub last_before : List LineBreak → ℕ → Option LineBreak
last_before breaks to = find (λ b. nat_lt b.end to) (reverse breaks)

-- the bytes that a search forward looks at: to the end of the break that it finds, or to where it was to end
abbrev pub looked_at : Option LineBreak → ℕ → ℕ → ℕ
looked_at (Some b) from to = b.end + 1 - from
looked_at None from to = to - from

-- the bytes that a search back looks at: to the start of the break that it finds, or to the source's start
abbrev pub looked_back : Option LineBreak → ℕ → ℕ
looked_back (Some b) to = to - b.start
looked_back None to = to

-- the byte after a place is no LF
abbrev pub is_before_no_lf : List ℕ → ℕ → Bool
is_before_no_lf bytes at = not (slice_index bytes (at + 1) == 10)
