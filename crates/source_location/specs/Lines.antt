-- The lines of a text.
use Rattle.std.specs.Prelude.{◌≡◌, ℕ, ◌+◌, ◌-◌, ◌<◌, ◌==◌, nat_lt, List, [], ◌∷◌, ◌++◌, length, map, filter, take, drop, slice_index, if◌then◌else◌}
use Rattle.std.specs.List.{range_with_len, concat}
use Rattle.std.specs.Str.{IsCharBoundary}
use Rattle.source_location.specs.Breaks.{breaks_of}
use Rattle.source_location.specs.Rows.{row_start, row_count, row_text}

-- a line as contracts see it: its bytes with its break, and where it starts
pub record LineView : Type 0 where
  pub text : List ℕ
  pub start : ℕ

-- a row as a line, of a text that starts at an offset
abbrev pub line_of : ℕ → List ℕ → ℕ → LineView
line_of offset text row = record { text = row_text text row; start = offset + row_start (length text) (breaks_of text) row }

-- the lines of a text: its rows with their breaks, but for a last one that has no byte
unfoldable pub lines_of : ℕ → List ℕ → List LineView
lines_of offset text =
    map (line_of offset text) (filter (λ row. nat_lt (row_start (length text) (breaks_of text) row) (length text)) (range_with_len 0 (row_count text)))

-- how many bytes the LF, CR or CRLF has that a text ends in
abbrev pub ending_length : List ℕ → ℕ
ending_length text =
    if slice_index text (length text - 1) == 10
    then (if slice_index text (length text - 2) == 13 then 2 else 1)
    else if slice_index text (length text - 1) == 13 then 1 else 0

-- a text without that ending
abbrev pub without_ending : List ℕ → List ℕ
without_ending text = take (length text - ending_length text) text

-- the same lines, and an empty one at the text's end if that is an LF or a CR
abbrev pub lines_with_trailing : ℕ → List ℕ → List LineView
lines_with_trailing offset text =
    lines_of offset text ++ (if ending_length text == 0 then [] else record { text = []; start = offset + length text } ∷ [])

-- the texts of lines, joined
abbrev pub texts_of : List LineView → List ℕ
texts_of lines = concat (map (λ line. line.text) lines)

-- the first line of a text ends at the place, with its break, and its other lines are those of what follows
pub record IsFirstLine (text : List ℕ) (place : ℕ) : Type 0 where
  pub some : 0 < place
  pub boundary : IsCharBoundary text place
  pub lines : (offset : ℕ) → lines_of offset text ≡ record { text = take place text; start = offset } ∷ lines_of (offset + place) (drop place text)

-- the last line of a text starts at the place, and its other lines are those of what comes before
pub record IsLastLine (text : List ℕ) (place : ℕ) : Type 0 where
  pub before : place < length text
  pub boundary : IsCharBoundary text place
  pub lines : (offset : ℕ) → lines_of offset text ≡ lines_of offset (take place text) ++ record { text = drop place text; start = offset + place } ∷ []
