-- The window of a span as an index sees it, from the starts of the rows that it holds and from where their breaks start.
use Rattle.std.specs.Prelude.{ℕ, ◌+◌, ◌-◌, nat_le, nat_lt, ◌==◌, ◌&&◌, Bool, List, min, count_by, slice_index_or, if◌then◌else◌}
use Rattle.std.specs.List.Sorted.{IsNonDecreasing}
use Rattle.oxc_windows.specs.declared.window.Window.{Window}
use Rattle.oxc_windows.specs.Window.{last_byte}

-- what is held is in ascending order
pub record AreInOrder (starts heads : List ℕ) : Type 0 where
  pub rows : IsNonDecreasing starts
  pub breaks : IsNonDecreasing heads

-- the row of an offset, counted from the first row held
unfoldable pub row_seen : List ℕ → ℕ → ℕ
row_seen starts offset = count_by (λ s. nat_le s offset) starts - 1

-- how many of the breaks held start before a place
unfoldable pub heads_before : List ℕ → ℕ → ℕ
heads_before heads to = count_by (λ h. nat_lt h to) heads

-- the place is the CR of a CRLF held: a break starts there, and the row after it at the second place further
unfoldable pub is_first_seen : List ℕ → List ℕ → ℕ → Bool
is_first_seen starts heads at =
    let row = heads_before heads at in (slice_index_or heads row 0 == at) && (slice_index_or starts (row + 1) 0 == at + 2)

-- the offset is the LF of a CRLF held: the row after its own starts at the next place, and the break before it
unfoldable pub is_second_seen : List ℕ → List ℕ → ℕ → Bool
is_second_seen starts heads offset =
    let row = row_seen starts offset in (slice_index_or starts (row + 1) 0 == offset + 1) && nat_lt (slice_index_or heads row 0) offset

-- where the window ends
unfoldable pub end_seen : ℕ → List ℕ → List ℕ → ℕ → ℕ → ℕ
end_seen len starts heads after end =
    let last = last_byte end in
    if after == 0
    then (if is_first_seen starts heads last then last + 2 else min len (last + 1))
    else slice_index_or starts (heads_before heads (last + 1) + after + 1) len

-- an offset, where the LF of a CRLF counts as its CR
unfoldable pub settled_seen : List ℕ → List ℕ → ℕ → ℕ
settled_seen starts heads offset = if is_second_seen starts heads offset then offset - 1 else offset

-- the column of an offset
unfoldable pub column_seen : ℕ → List ℕ → List ℕ → ℕ → ℕ
column_seen len starts heads offset = settled_seen starts heads offset - slice_index_or starts (row_seen starts offset) len

-- the window, where `top` is the number of the first row held
unfoldable pub seen : ℕ → ℕ → List ℕ → List ℕ → ℕ → ℕ → ℕ → ℕ → Window
seen len top starts heads before after start end =
    let stop = end_seen len starts heads after end in
    record {
      begin = if before == 0 then start else slice_index_or starts (top + row_seen starts start - before - top) len;
      end = stop;
      line = top + row_seen starts start - before;
      column = if before == 0 then column_seen len starts heads start else 0;
      line_count = top + row_seen starts stop;
    }
