-- The window of a span: the rows round it, from the length of a text and its breaks alone.
use Rattle.std.specs.Prelude.{ℕ, ◌+◌, ◌-◌, nat_lt, nat_le, ◌==◌, ◌&&◌, Bool, List, Option, Some, None, min, if◌then◌else◌}
use Rattle.std.specs.List.{list_any}
use Rattle.oxc_windows.specs.declared.breaks.LineBreak.{LineBreak}
use Rattle.oxc_windows.specs.declared.window.Window.{Window}
use Rattle.oxc_windows.specs.Rows.{row_of, row_start, byte_column}

-- the place lies in a break
abbrev pub is_in_break : List LineBreak → ℕ → Bool
is_in_break breaks at = list_any (λ b. nat_le b.start at && nat_le at b.end) breaks

-- one row further where the place lies in a break
abbrev pub row_further : List LineBreak → ℕ → ℕ
row_further breaks at = if is_in_break breaks at then 1 else 0

-- the place is the CR of a CRLF
abbrev pub is_first_byte : List LineBreak → ℕ → Bool
is_first_byte breaks at = list_any (λ b. (b.start == at) && (b.end == at + 1)) breaks

-- the last byte of a span that ends there, empty spans too; of one that ends at 0 it is byte 0
abbrev pub last_byte : ℕ → ℕ
last_byte end = end - 1

-- the first row of a window, and where the window begins
abbrev pub first_row : List LineBreak → ℕ → ℕ → ℕ
first_row breaks before start = row_of breaks start - before

abbrev pub window_begin : ℕ → List LineBreak → ℕ → ℕ → ℕ
window_begin len breaks before start =
    if before == 0 then start else row_start len breaks (first_row breaks before start)

-- where a window ends: past `after` rows below that of the last byte, and one row further where that byte lies in a break;
-- with no row asked for, past the last byte, or past the LF of its CRLF
unfoldable pub window_end : ℕ → List LineBreak → ℕ → ℕ → ℕ
window_end len breaks after end =
    let last = last_byte end in
    if after == 0
    then (if is_first_byte breaks last then last + 2 else min len (last + 1))
    else row_start len breaks (row_of breaks last + after + row_further breaks last + 1)

-- the column that a window tells: that of the span's start where no row is asked for before it
abbrev pub window_column : ℕ → List LineBreak → ℕ → ℕ → ℕ
window_column len breaks before start = if before == 0 then byte_column len breaks start else 0

-- the window of the span from `start` to before `end`, with rows before and after
abbrev pub window_at : ℕ → List LineBreak → ℕ → ℕ → ℕ → ℕ → Window
window_at len breaks before after start end =
    record {
      begin = window_begin len breaks before start;
      end = window_end len breaks after end;
      line = first_row breaks before start;
      column = window_column len breaks before start;
      line_count = row_of breaks (window_end len breaks after end);
    }

-- the window, if there is one: none where the span ends past the text
unfoldable pub window_of : ℕ → List LineBreak → ℕ → ℕ → ℕ → ℕ → Option Window
window_of len breaks before after start end =
    if nat_lt len end then None else Some (window_at len breaks before after start end)
