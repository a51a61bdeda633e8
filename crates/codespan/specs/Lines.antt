-- The lines of a text under line feeds alone, and the places in them.
use Rattle.std.specs.Prelude.{◌≡◌, ℕ, ◌+◌, ◌==◌, nat_lt, List, ◌∷◌, length, map, count_by, chars, slice_index, slice_range}
use Rattle.std.specs.List.{filter, flat_map, range_with_len}
use Rattle.codespan_reporting.specs.Lines.{line_start}
use Rattle.codespan.specs.Spans.{Extent}

-- the places of the line feeds, ascending
unfoldable pub line_feeds : List ℕ → List ℕ
line_feeds text = filter (λ at. slice_index text at == 10) (range_with_len 0 (length text))

-- where each line starts: at 0, and after each line feed
unfoldable pub line_starts_lf : List ℕ → List ℕ
line_starts_lf text = 0 ∷ map (λ at. at + 1) (line_feeds text)

-- how many lines there are, at least one
abbrev pub line_count : List ℕ → ℕ
line_count text = length (line_starts_lf text)

-- the line of a place, from 0: how many line feeds stand before it
unfoldable pub line_of : List ℕ → ℕ → ℕ
line_of text place = count_by (λ at. nat_lt at place) (line_feeds text)

-- where a line starts; the end of the text past the last line
abbrev pub start_of_line : List ℕ → ℕ → ℕ
start_of_line text line = line_start (line_starts_lf text) (length text) line

-- a line with its line feed
abbrev pub line_extent : List ℕ → ℕ → Extent
line_extent text line = record { start = start_of_line text line; end = start_of_line text (line + 1) }

-- the column of a boundary, from 0: how many characters stand between the start of its line and it
abbrev pub column_of : List ℕ → ℕ → ℕ
column_of text place = length (chars (slice_range text (start_of_line text (line_of text place)) place))

-- the bytes of a span
abbrev pub bytes_of : List ℕ → Extent → List ℕ
bytes_of text span = slice_range text span.start span.end

-- all lines one after another are the text
abbrev pub LinesJoin : List ℕ → Type 0
LinesJoin text = flat_map (λ line. bytes_of text (line_extent text line)) (range_with_len 0 (line_count text)) ≡ text
