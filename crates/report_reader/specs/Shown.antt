-- What a seen report looks like: its lines, each with an LF behind it.
use Rattle.std.specs.Prelude.{ℕ, not, ◌&&◌, ◌+◌, ◌-◌, ◌/◌, List, [], ◌∷◌, ◌++◌, Option, Some, None, is_some, codes, decimal, length, replicate, reverse, if◌then◌else◌}
use Rattle.std.specs.List.{flat_map, slice_get}
use Rattle.std.specs.Option.{option_map_or}
use Rattle.oxc_protocol.specs.declared.protocol.Severity.{Severity}
use Rattle.oxc_protocol.specs.declared.protocol.Severity.TheVariants.{Error, Warning, Advice}
use Rattle.report_reader.specs.Seen.{Mark, Row, Head, named, bare, dashes, Snippet, Report}

abbrev pub spaces : ℕ → List ℕ
spaces n = replicate n 0x20

abbrev pub carets : ℕ → List ℕ
carets n = replicate n 0x5E

-- the cell of a mark from which its text hangs
abbrev pub bar_of : Mark → ℕ
bar_of m = (m.start + m.end) / 2

-- what stands in that cell: a bar, or a caret for a mark with an arrow or without a text
abbrev pub marker : Mark → ℕ
marker m = if is_some m.text && not m.arrow then 0x7C else 0x5E

unfoldable pub mark_body : Mark → List ℕ
mark_body m = carets (bar_of m - m.start) ++ (marker m ∷ carets (m.end - bar_of m - 1))

-- the cells of marks, from a cell on
unfoldable pub mark_cells : ℕ → List Mark → List ℕ
mark_cells from [] = []
mark_cells from (m ∷ more) = spaces (m.start - from) ++ (mark_body m ++ mark_cells m.end more)

-- how many cells stand before a cell, or between a bar before it and the cell
abbrev pub gap : Option ℕ → ℕ → ℕ
gap None cell = cell
gap (Some bar) cell = cell - bar - 1

-- the bars of marks behind a bar, if there is one, up to a cell
unfoldable pub bars_to : Option ℕ → ℕ → List Mark → List ℕ
bars_to before to [] = spaces (gap before to)
bars_to before to (m ∷ more) = spaces (gap before (bar_of m)) ++ (0x7C ∷ bars_to (Some (bar_of m)) to more)

-- the line of a text that hangs from a cell, behind the bars of the marks before it
unfoldable pub hang_line : List Mark → ℕ → List ℕ → List ℕ
hang_line earlier bar text = bars_to None bar earlier ++ (codes "`-- " ++ text)

abbrev pub hang_of : List Mark → ℕ → Option (List ℕ) → List (List ℕ)
hang_of earlier bar None = []
hang_of earlier bar (Some text) = hang_line earlier bar text ∷ []

-- the hanging lines of marks, with the marks before them
abbrev pub hangs_from : List Mark → List Mark → List (List ℕ)
hangs_from earlier [] = []
hangs_from earlier (m ∷ more) = hang_of earlier (bar_of m) m.text ++ hangs_from (earlier ++ m ∷ []) more

-- the lines under a row: the marks, and the texts from the last mark to the first
unfoldable pub marks_lines : List Mark → List (List ℕ)
marks_lines [] = []
marks_lines (m ∷ more) = mark_cells 0 (m ∷ more) ∷ reverse (hangs_from [] (m ∷ more))

unfoldable pub row_front : ℕ → ℕ → List ℕ
row_front digits number = 0x20 ∷ (spaces (digits - length (decimal number)) ++ (decimal number ++ codes " | "))

unfoldable pub other_front : ℕ → List ℕ
other_front digits = spaces (digits + 2) ++ codes ": "

abbrev pub under : ℕ → List ℕ → List ℕ
under digits line = other_front digits ++ line

abbrev pub unders : ℕ → List (List ℕ) → List (List ℕ)
unders digits [] = []
unders digits (line ∷ more) = under digits line ∷ unders digits more

unfoldable pub row_lines : ℕ → Row → List (List ℕ)
row_lines digits row = (row_front digits row.number ++ row.text) ∷ unders digits (marks_lines row.marks)

unfoldable pub head_text : Head → List ℕ
head_text (named name row column) = codes "[" ++ (name ++ (codes ":" ++ (decimal row ++ (codes ":" ++ (decimal column ++ codes "]")))))
head_text (bare row column) = codes "[" ++ (decimal row ++ (codes ":" ++ (decimal column ++ codes "]")))
head_text dashes = codes "---"

unfoldable pub head_line : ℕ → Head → List ℕ
head_line digits head = spaces (digits + 2) ++ (codes ",-" ++ head_text head)

unfoldable pub close_line : ℕ → List ℕ
close_line digits = spaces (digits + 2) ++ codes "`----"

-- the digits of the last row's number
abbrev pub number_width : List Row → ℕ
number_width rows = option_map_or (λ r. length (decimal r.number)) (slice_get rows (length rows - 1)) 1

abbrev pub snippet_lines_by : ℕ → Snippet → List (List ℕ)
snippet_lines_by digits snippet = head_line digits snippet.head ∷ (flat_map (row_lines digits) snippet.rows ++ close_line digits ∷ [])

unfoldable pub snippet_lines : Snippet → List (List ℕ)
snippet_lines snippet = snippet_lines_by (number_width snippet.rows) snippet

abbrev pub icon : Severity → ℕ
icon Error = 0x78
icon Warning = 0x21
icon Advice = 0x3E

unfoldable pub title_line : Severity → List ℕ → List ℕ
title_line severity title = codes "  " ++ (icon severity ∷ (0x20 ∷ title))

abbrev pub ended : List (List ℕ) → List ℕ
ended lines = flat_map (λ line. line ++ 0x0A ∷ []) lines

unfoldable pub report_lines : Report → List (List ℕ)
report_lines report = [] ∷ (title_line report.severity report.title ∷ flat_map snippet_lines report.snippets)

unfoldable pub shown : Report → List ℕ
shown report = ended (report_lines report)
