-- The line breaks of a list of bytes: LF, CR, and CRLF taken as one.
use Rattle.std.specs.Prelude.{ℕ, ◌+◌, ◌-◌, ◌<◌, ◌≤◌, ◌==◌, ◌&&◌, ◌||◌, not, Bool, List, length, slice_index, Option, Some, None, if◌then◌else◌, All, AllPairs}
use Rattle.std.specs.List.{filter_map, range_with_len}
use Rattle.oxc_windows.specs.declared.breaks.LineBreak.{LineBreak}

-- the break that starts at a place, if one does: an LF with no CR before it, a CR, or a CR with its LF;
-- past the end `slice_index` is 0, which begins no break, and at place 0 the byte before is the LF itself
abbrev pub break_at : List ℕ → ℕ → Option LineBreak
break_at bytes at =
    if slice_index bytes at == 10
    then (if slice_index bytes (at - 1) == 13 then None else Some (record { start = at; end = at }))
    else if slice_index bytes at == 13
    then (if slice_index bytes (at + 1) == 10 then Some (record { start = at; end = at + 1 }) else Some (record { start = at; end = at }))
    else None

-- the breaks that start before a place, ascending
unfoldable pub breaks_before : List ℕ → ℕ → List LineBreak
breaks_before bytes to = filter_map (break_at bytes) (range_with_len 0 to)

-- the breaks of a text, ascending
unfoldable pub breaks_of : List ℕ → List LineBreak
breaks_of bytes = breaks_before bytes (length bytes)

-- the byte at a place is a CR with no LF behind it
abbrev pub is_lone_return : List ℕ → ℕ → Bool
is_lone_return bytes at = (slice_index bytes at == 13) && not (slice_index bytes (at + 1) == 10)

-- the byte at a place is the last one of a break: an LF, or a CR with no LF behind it
abbrev pub ends_break : List ℕ → ℕ → Bool
ends_break bytes at = (slice_index bytes at == 10) || is_lone_return bytes at

-- breaks of one byte or two, in order, no two of which share a byte
pub record AreBreaks (breaks : List LineBreak) : Type 0 where
  pub shape : All (λ b. (b.start ≤ b.end) × (b.end ≤ b.start + 1)) breaks
  pub apart : AllPairs (λ b c. b.end < c.start) breaks

-- a list that can be the breaks of a text of that length
pub record IsBreakList (len : ℕ) (breaks : List LineBreak) : Type 0 where
  pub ordered : AreBreaks breaks
  pub within : All (λ b. b.end < len) breaks
