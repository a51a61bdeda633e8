-- What a text would be read as. It is total: what no report shows is read as anything.
use Rattle.std.specs.Prelude.{Bool, ℕ, true, not, ◌&&◌, ◌||◌, ◌+◌, ◌-◌, ◌/◌, ◌==◌, ◌≡◌, List, [], ◌∷◌, ◌++◌, Option, Some, None, is_some, drop, length, map, reverse, slice_index, if◌then◌else◌}
use denote.Ref.{Bor}
use Rattle.std.specs.List.{before_first, after_first, slice_split}
use Rattle.std.specs.Option.{option_copied, option_to_list, unwrap_or, option_map}
use Rattle.numerals.specs.Numerals.{number_in}
use Rattle.oxc_protocol.specs.declared.protocol.Severity.{Severity}
use Rattle.oxc_protocol.specs.declared.protocol.Severity.TheVariants.{Error, Warning, Advice}
use Rattle.report_reader.specs.declared.lines.Line as code
use Rattle.report_reader.specs.declared.lines.Line.TheVariants.{Heading, Numbered, Below, Other}
use Rattle.report_reader.specs.declared.reader.Parts as read
use Rattle.report_reader.specs.declared.marks.Run.{Run}
use Rattle.report_reader.specs.Shown.{shown}
use Rattle.report_reader.specs.WellFormed.{is_well_formed, HasSizes}
use Rattle.report_reader.specs.Seen.{Mark, Row, Head, named, bare, dashes, Snippet, Report, row_model, snippet_model}

-- what stands before the first of a byte, or all, and what stands behind it, or nothing
unfoldable pub front : ℕ → List ℕ → List ℕ
front c text = before_first (λ b. b == c) text

unfoldable pub back : ℕ → List ℕ → List ℕ
back c text = after_first (λ b. b == c) text

abbrev pub split_more : ℕ → ℕ → List ℕ → Option (List ℕ × List ℕ) → Option (List ℕ × List ℕ)
split_more c b text (Some parts) = Some (b ∷ parts.0, parts.1)
split_more c b text None = if b == c then Some ([], text) else None

-- what stands before and behind the last of a byte
abbrev pub split_last : ℕ → List ℕ → Option (List ℕ × List ℕ)
split_last c [] = None
split_last c (b ∷ text) = split_more c b text (split_last c text)

-- the two texts behind references
abbrev pub cut : Bor (List ℕ) × Bor (List ℕ) → List ℕ × List ℕ
cut parts = (parts.0.now, parts.1.now)

unfoldable pub without_spaces : List ℕ → List ℕ
without_spaces [] = []
without_spaces (b ∷ text) = if b == 0x20 then without_spaces text else b ∷ text

-- the marks of a line

abbrev pub grown : Option Run → ℕ → ℕ → Run
grown None at cell = record { start = at; end = at + 1; has_bar = cell == 0x7C }
grown (Some run) at cell = record { start = run.start; end = at + 1; has_bar = run.has_bar || (cell == 0x7C) }

-- the runs of cells that aren't spaces, from a cell on, with the run that has begun
abbrev pub runs_from : ℕ → Option Run → List ℕ → List Run
runs_from at begun [] = option_to_list begun
runs_from at begun (cell ∷ cells) =
    if cell == 0x20 then option_to_list begun ++ runs_from (at + 1) None cells
    else runs_from (at + 1) (Some (grown begun at cell)) cells

-- the text of the first of some hanging lines, where it hangs from a cell
abbrev pub first_text : List (List ℕ) → ℕ → Option (List ℕ)
first_text [] bar = None
first_text (line ∷ more) bar = if length (front 0x60 line) == bar then Some (back 0x20 (back 0x60 line)) else None

abbrev pub mark_by : Run → Option (List ℕ) → Mark
mark_by run text = record { start = run.start; end = run.end; text = text; arrow = is_some text && not run.has_bar }

-- the lines behind one whose text was taken
abbrev pub hangs_behind : Bool → List (List ℕ) → List (List ℕ)
hangs_behind taken hangs = if taken then drop 1 hangs else hangs

abbrev pub text_of : Run → List (List ℕ) → Option (List ℕ)
text_of run hangs = first_text hangs (run.start + (run.end - run.start) / 2)

-- the marks of runs, with hanging lines in their order: a line whose text is taken is gone
abbrev pub marks_from : List Run → List (List ℕ) → List Mark
marks_from [] hangs = []
marks_from (run ∷ runs) hangs = mark_by run (text_of run hangs) ∷ marks_from runs (hangs_behind (is_some (text_of run hangs)) hangs)

unfoldable pub marks_in : List ℕ → List (List ℕ) → List Mark
marks_in line hangs = marks_from (runs_from 0 None line) hangs

-- the kinds of lines

pub data Line : Type 0 where
  head_kind : List ℕ → Line
  row_kind : ℕ → List ℕ → Line
  under_kind : List ℕ → Line
  other_kind : Line

abbrev pub line_model : code.Line → Line
line_model (Heading text) = head_kind text.now
line_model (Numbered number text) = row_kind number text.now
line_model (Below text) = under_kind text.now
line_model Other = other_kind

abbrev pub row_or_other : Option ℕ → List ℕ → Line
row_or_other (Some number) text = row_kind number text
row_or_other None text = other_kind

abbrev pub line_by : List ℕ → Line
line_by text =
    if slice_index text 0 == 0x2C then head_kind text
    else if slice_index text 0 == 0x3A then under_kind (back 0x20 text)
    else row_or_other (number_in (front 0x20 text)) (back 0x20 (back 0x20 text))

unfoldable pub line_in : List ℕ → Line
line_in line = line_by (without_spaces line)

-- heads

abbrev pub number_or_none : List ℕ → ℕ
number_or_none text = unwrap_or (number_in text) 0

abbrev pub head_before : Option (List ℕ × List ℕ) → List ℕ → ℕ → Head
head_before (Some parts) place column = named parts.0 (number_or_none parts.1) column
head_before None place column = bare (number_or_none place) column

abbrev pub head_by : Option (List ℕ × List ℕ) → Head
head_by None = dashes
head_by (Some parts) = head_before (split_last 0x3A parts.0) parts.0 (number_or_none (front 0x5D parts.1))

unfoldable pub head_in : List ℕ → Head
head_in text = head_by (split_last 0x3A (back 0x5B text))

-- the lines from the last to the first: what they make is pushed

pub record Parts : Type 0 where
  pub line : Option (List ℕ)  -- the first line under the row to come, as far as it was read
  pub hangs : List (List ℕ)  -- the lines below it, from the last to the first
  pub rows : List Row  -- the rows below, from the last to the first
  pub snippets : List Snippet

abbrev pub parts_model : read.Parts → Parts
parts_model p = record {
  line = option_copied p.line;
  hangs = map (λ line. line.now) p.hangs.items;
  rows = map row_model p.rows.items;
  snippets = map snippet_model p.snippets.items;
}

abbrev pub marks_by : Option (List ℕ) → List (List ℕ) → List Mark
marks_by None hangs = []
marks_by (Some line) hangs = marks_in line hangs

abbrev pub add_line : Line → Parts → Parts
add_line (under_kind cells) parts = record { line = Some cells; hangs = parts.hangs ++ option_to_list parts.line; rows = parts.rows; snippets = parts.snippets }
add_line (row_kind number text) parts =
    record { line = None; hangs = []; rows = parts.rows ++ (record { number = number; text = text; marks = marks_by parts.line parts.hangs }) ∷ []; snippets = parts.snippets }
add_line (head_kind text) parts =
    record { line = None; hangs = []; rows = []; snippets = parts.snippets ++ (record { head = head_in text; rows = reverse parts.rows }) ∷ [] }
add_line other_kind parts = parts

abbrev pub no_parts : Parts
no_parts = record { line = None; hangs = []; rows = []; snippets = [] }

abbrev pub parts_in : List (List ℕ) → Parts
parts_in [] = no_parts
parts_in (line ∷ more) = add_line (line_in line) (parts_in more)

unfoldable pub snippets_in : List (List ℕ) → List Snippet
snippets_in lines = reverse (parts_in lines).snippets

-- the title

abbrev pub severity_by : ℕ → Option Severity
severity_by icon = if icon == 0x78 then Some Error else if icon == 0x21 then Some Warning else if icon == 0x3E then Some Advice else None

unfoldable pub severity_in : List ℕ → Option Severity
severity_in line = severity_by (slice_index (without_spaces line) 0)

unfoldable pub title_in : List ℕ → List ℕ
title_in line = back 0x20 (without_spaces line)

abbrev pub report_by : List (List ℕ) → Option Report
report_by [] = None
report_by (line ∷ more) = option_map (λ severity. record { severity = severity; title = title_in line; snippets = snippets_in more }) (severity_in line)

abbrev pub report_behind : List (List ℕ) → Option Report
report_behind [] = None
report_behind (line ∷ more) = report_by more

-- what a text would be read as
unfoldable pub guess : List ℕ → Option Report
guess text = report_behind (slice_split (λ b. b == 0x0A) text)

-- what is read is a well formed report that shows as the text
abbrev pub IsRead : List ℕ → Report → Type 0
IsRead text report = (is_well_formed report ≡ true) × (shown report ≡ text)

-- a report that is well formed and shows as the text is what is read
abbrev pub ReadsEach : List ℕ → Option Report → Type 0
ReadsEach text found = (report : Report) → HasSizes report.snippets → is_well_formed report ≡ true → shown report ≡ text → found ≡ Some report
