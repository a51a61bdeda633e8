-- The bytes of a region in a text.
use Rattle.std.specs.Prelude.{ℕ, zero, suc, ◌+◌, ◌-◌, ◌^◌, ◌≤◌, ◌==◌, ◌&&◌, ◌||◌, List, [], ◌∷◌, Bool, length, max, nat_le, nat_lt, if◌then◌else◌, Option, Some, None, option_map, option_and_then, unwrap_or, slice_get, slice_index, slice_range, drop}
use Rattle.std.specs.Str.{chars, IsCharBoundary}
use Rattle.std.specs.Char.{len_utf8}
use Rattle.std.specs.declared.ops.Range.{Range}
use Rattle.sarif_log.specs.declared.log.ColumnKind.{ColumnKind}
use Rattle.sarif_log.specs.declared.log.ColumnKind.TheVariants.{Characters, Utf16}
use Rattle.sarif_log.specs.declared.log.Region.{Region}
use Rattle.sarif_spans.specs.declared.rows.Row.{Row}
use Rattle.sarif_spans.specs.Rows.{mark_len}

-- 0 says nothing where a row or a column is meant
abbrev pub positive : Option ℕ → Option ℕ
positive None = None
positive (Some n) = if n == 0 then None else Some n

-- ---- by rows and columns

-- how many columns a character takes
abbrev pub width_of : ColumnKind → ℕ → ℕ
width_of Characters c = 1
width_of Utf16 c = if nat_lt c (2 ^ 16) then 1 else 2

-- the bytes of the most characters from the first on that fit in so many columns
unfoldable pub fitting : ColumnKind → ℕ → List ℕ → ℕ
fitting kind left [] = 0
fitting kind left (c ∷ cs) = if nat_le (width_of kind c) left then len_utf8 c + fitting kind (left - width_of kind c) cs else 0

-- the place of a column, from 1, of a row; without a column, the row's end
unfoldable pub in_row : ColumnKind → List ℕ → Row → Option ℕ → ℕ
in_row kind text row None = row.end
in_row kind text row (Some column) = row.start + fitting kind (column - 1) (chars (slice_range text row.start row.end))

-- a place by a row and a column, both from 1; a row that isn't there has none
unfoldable pub place_of : ColumnKind → List ℕ → List Row → ℕ → Option ℕ → Option ℕ
place_of kind text rows line column = option_map (λ row. in_row kind text row column) (slice_get rows (line - 1))

abbrev pub range_of : ℕ → ℕ → Range ℕ
range_of start end = record { start = start; end = end }

-- from a row on: a start column that isn't there is 1, an end row the start's, an end column the row's end; an end before the start is the start
unfoldable pub by_rows : ColumnKind → List ℕ → List Row → ℕ → Region → Option (Range ℕ)
by_rows kind text rows line region =
    let start = place_of kind text rows line (Some (unwrap_or (positive region.start_column) 1)) in
    let end = place_of kind text rows (unwrap_or (positive region.end_line) line) (positive region.end_column) in
    option_and_then (λ s. option_map (λ e. range_of s (max s e)) end) start

-- ---- by characters

-- the bytes of so many characters; none where there are fewer
unfoldable pub passed : ℕ → List ℕ → Option ℕ
passed zero cs = Some 0
passed (suc count) [] = None
passed (suc count) (c ∷ cs) = option_map (λ bytes. len_utf8 c + bytes) (passed count cs)

-- the place so many characters behind another
unfoldable pub behind : List ℕ → ℕ → ℕ → Option ℕ
behind text at count = option_map (λ bytes. at + bytes) (passed count (chars (drop at text)))

-- so many characters behind the mark, and as many on as the region is long
unfoldable pub by_characters : List ℕ → ℕ → ℕ → Option (Range ℕ)
by_characters text offset count =
    option_and_then (λ start. option_map (λ end. range_of start end) (behind text start count)) (behind text (mark_len text) offset)

-- ---- by bytes

-- no character is cut there
abbrev pub cuts_none : List ℕ → ℕ → Bool
cuts_none text at = nat_le at (length text) && (nat_le (length text) at || (nat_lt (slice_index text at) 128 || nat_le 192 (slice_index text at)))

-- the last place up to this one at which no character is cut
unfoldable pub floor_of : List ℕ → ℕ → ℕ
floor_of text zero = 0
floor_of text (suc at) = if cuts_none text (suc at) then suc at else floor_of text at

unfoldable pub by_bytes : List ℕ → ℕ → ℕ → Option (Range ℕ)
by_bytes text offset count =
    if nat_le (offset + count) (length text) then Some (range_of (floor_of text offset) (floor_of text (offset + count))) else None

-- ---- the first of the three that the region has

abbrev pub where_given : Option ℕ → (ℕ → Option (Range ℕ)) → Option (Range ℕ) → Option (Range ℕ)
where_given None found other = other
where_given (Some n) found other = found n

unfoldable pub span_of : ColumnKind → List ℕ → List Row → Region → Option (Range ℕ)
span_of kind text rows region =
    where_given (positive region.start_line) (λ line. by_rows kind text rows line region)
    (where_given region.char_offset (λ offset. by_characters text offset (unwrap_or region.char_length 0))
    (where_given region.byte_offset (λ offset. by_bytes text offset (unwrap_or region.byte_length 0)) None))

-- a span stands in a text, cuts no character, and doesn't end before it starts
pub record IsSpanOf (text : List ℕ) (span : Range ℕ) : Type 0 where
  pub ordered : span.start ≤ span.end
  pub start : IsCharBoundary text span.start
  pub end : IsCharBoundary text span.end
