-- The row starts of a part of a text.
use Rattle.std.specs.Prelude.{ℕ, ◌+◌, length, Bool, true, false, nat_le, ◌==◌, ◌&&◌, List, if◌then◌else◌}
use Rattle.std.specs.List.{filter}
use Rattle.source_location.specs.Breaks.{breaks_of}
use Rattle.source_location.specs.Rows.{line_starts, row_start}

-- the row starts of a text from one place to another, both of them included
abbrev pub starts_between : List ℕ → ℕ → ℕ → List ℕ
starts_between text from to = filter (λ start. nat_le from start && nat_le start to) (line_starts (breaks_of text))

-- whether a row ends with a byte, given the one after it: with an LF, and with a CR that no LF follows
abbrev pub ends_row : ℕ → ℕ → Bool
ends_row byte after = if byte == 10 then true else if byte == 13 then (if after == 10 then false else true) else false

-- where a row lies with its break
abbrev pub row_range : List ℕ → ℕ → ℕ × ℕ
row_range text row = (row_start (length text) (breaks_of text) row, row_start (length text) (breaks_of text) (row + 1))
