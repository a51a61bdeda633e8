-- What the plan of a report says to whoever sees its drawing.
use Rattle.std.specs.Prelude.{ℕ, ◌&&◌, List, Option, Some, None, is_some, map, length, nat_le, if◌then◌else◌}
use Rattle.oxc_plan.specs.declared.marks.MarkCells.{MarkCells}
use Rattle.oxc_plan.specs.Plan.{Ordered, RowPlanView, SnippetView}
use Rattle.oxc_handlers.specs.Report.{Plan}
use Rattle.oxc_handlers.specs.Setting.{text_at, is_empty_at}
use Rattle.oxc_handlers.specs.Texts.{shown_text}
use Rattle.report_reader.specs.Seen.{Mark, Row, Head, named, bare, dashes, Snippet, Report}
use Rattle.report_reader.specs.Title.{without_last_spaces}

-- a placed mark with the text of its label; the text of an empty label hangs from an arrow
abbrev pub seen_mark : List Ordered → MarkCells → Mark
seen_mark labels m = record { start = m.start; end = m.end; text = text_at labels m.label; arrow = is_empty_at labels m.label && is_some (text_at labels m.label) }

-- a row as it is drawn, where tabs stop at multiples of `tab` columns
abbrev pub seen_row : ℕ → List Ordered → RowPlanView → Row
seen_row tab labels row = record { number = row.row.number; text = shown_text tab row.row.text; marks = map (seen_mark labels) row.marks }

abbrev pub seen_head : Option (List ℕ) → ℕ → ℕ → ℕ → Head
seen_head (Some name) line column rows = named name line column
seen_head None line column rows = if nat_le 2 rows then bare line column else dashes

abbrev pub seen_snippet : ℕ → List Ordered → Option (List ℕ) → SnippetView → Snippet
seen_snippet tab labels name snippet =
    record { head = seen_head name snippet.head_line snippet.head_column (length snippet.rows); rows = map (seen_row tab labels) snippet.rows }

-- the severity, the title without the spaces at its end, and the snippets
unfoldable pub seen_of : Plan → Report
seen_of plan =
    record { severity = plan.severity; title = without_last_spaces plan.title; snippets = map (seen_snippet plan.tab plan.labels plan.name) plan.snippets }
