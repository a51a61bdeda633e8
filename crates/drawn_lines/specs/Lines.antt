-- Lines that a tool prints for people: how they are read, and how they are drawn.
use Rattle.std.specs.Prelude.{ℕ, ◌-◌, ◌==◌, ◌&&◌, ◌||◌, List, [], ◌∷◌, ◌++◌, length, map, take, drop, option_map, String, string_bytes, Option, Some, None, unwrap_or, Bool, true, false, if◌then◌else◌}
use Rattle.std.specs.List.{flat_map}
use Rattle.std.specs.Str.Lossy.{utf8_lossy}
use Rattle.std.specs.declared.alloc.Global.{Global}
use Rattle.harmless.specs.declared.Kind.TheVariants.{Prose}
use Rattle.harmless.specs.Harmless.{harmless}
use Rattle.harmless.specs.Paint.{harmless_line}
use Rattle.shown_reports.specs.Shown.{shown_text}
use Rattle.ci_formats.specs.declared.format.CiFormat.TheVariants as ci
use Rattle.report_texts.specs.CiTexts.{ci_text}
use Rattle.found_reports.specs.Held.{Held}
use Rattle.found_reports.specs.Found.{Found}
use Rattle.line_shapes.specs.declared.tools.Columns.{Columns}
use Rattle.line_shapes.specs.declared.tables.Unit.TheVariants.{Characters}
use Rattle.line_shapes.specs.declared.parse.OwnShape.{OwnShape}
use Rattle.line_shapes.specs.Shape.{ShapeParts}
use Rattle.line_shapes.specs.Tools as tools
use Rattle.tool_lines.specs.Lines.{PieceParts, is_kept, without_cr}
use Rattle.line_reports.specs.Pieces.{ReadParts}
use Rattle.line_reports.specs.Reports.{reports_in}
use Rattle.report_texts.specs.Texts.{first_drawings}
use Rattle.girzohal_options.specs.declared.Asked.{Asked}
use Rattle.girzohal_options.specs.declared.OutputForm.{OutputForm}
use Rattle.girzohal_options.specs.declared.OutputForm.TheVariants.{Drawing, Json, Document, Sarif, Problems, Github, Gitlab, Checkstyle, Junit, Stylish, Summary, Markdown, Html}
use Rattle.girzohal_options.specs.declared.ThemeChoice.{ThemeChoice}
use Rattle.girzohal_options.specs.declared.ThemeChoice.TheVariants.{Auto, Plain, Unicode, UnicodeNocolor}
use Rattle.drawn_lines.specs.Text.{read_line}

-- ---- how lines are read

abbrev pub own_parts : OwnShape → ShapeParts
own_parts shape = record { lead = shape.lead.items; kind = shape.kind; after = shape.after.items }

abbrev pub tool_parts : Option (String Global) → List ShapeParts
tool_parts None = []
tool_parts (Some tool) = tools.shapes_of (string_bytes tool)

-- the user's own shapes, and then those of the tool
abbrev pub shapes_of : Asked → List ShapeParts
shapes_of asked = map own_parts asked.shapes.items ++ tool_parts asked.tool

-- characters from 1, where nothing is known of the tool
abbrev pub usual : Columns
usual = record { unit = Characters; first = 1; with_end = true }

abbrev pub tool_columns : Option (String Global) → Columns
tool_columns None = usual
tool_columns (Some tool) = unwrap_or (tools.columns_of (string_bytes tool)) usual

-- what columns count: what was asked for, else what is known of the tool
abbrev pub columns_of : Asked → Columns
columns_of asked =
    let base = tool_columns asked.tool in
    record base { unit = unwrap_or asked.columns base.unit; first = unwrap_or asked.first_column base.first }

-- ---- what is written in which form

-- annotations are written, and lines that are no findings stand aside
abbrev pub annotates : OutputForm → Bool
annotates Drawing = false
annotates Json = false
annotates Document = false
annotates Sarif = false
annotates Problems = false
annotates Github = true
annotates Gitlab = false
annotates Checkstyle = false
annotates Junit = false
annotates Stylish = false
annotates Summary = false
annotates Markdown = false
annotates Html = false

abbrev pub has_colors : ThemeChoice → Bool
has_colors Auto = false
has_colors Plain = false
has_colors Unicode = true
has_colors UnicodeNocolor = false

-- ---- lines that are no findings

-- ESC and `]`, which begin a link
abbrev pub begins_link : List ℕ → Bool
begins_link [] = false
begins_link (x ∷ []) = false
begins_link (x ∷ (y ∷ rest)) = x == 0x1B && y == 0x5D

abbrev pub holds_link : List ℕ → Bool
holds_link [] = false
holds_link (x ∷ rest) = begins_link (x ∷ rest) || holds_link rest

-- a line as it came, with its paint; without it where it holds a link
unfoldable pub painted_text : Bool → List ℕ → List ℕ
painted_text raw came =
    if raw
    then utf8_lossy (without_cr came)
    else if holds_link came then harmless Prose (utf8_lossy (read_line came)) else harmless_line (utf8_lossy (without_cr came))

-- a line as it is shown: as it came with its paint, or as it was read
abbrev pub line_text : Bool → Bool → List ℕ → List ℕ
line_text painted raw line = if painted then painted_text raw line else shown_text raw Prose (utf8_lossy line)

-- the same, and an LF
abbrev pub kept_line : Bool → Bool → List ℕ → List ℕ
kept_line painted raw line = line_text painted raw line ++ 0x0A ∷ []

abbrev pub kept_run : Bool → Bool → PieceParts → List (List ℕ) → List ℕ
kept_run painted raw piece run = if is_kept piece.begun.sort then flat_map (kept_line painted raw) run else []

-- unless only findings are asked for
abbrev pub kept_if : Asked → Bool → PieceParts → List (List ℕ) → List ℕ
kept_if asked painted piece run = if asked.only_findings then [] else kept_run painted asked.raw piece run

-- the lines of pieces that are kept, without their paint
abbrev pub kept_text : Asked → List (List ℕ) → List PieceParts → List ℕ
kept_text asked lines [] = []
kept_text asked lines (piece ∷ pieces) = kept_if asked false piece (take piece.lines lines) ++ kept_text asked (drop piece.lines lines) pieces

-- those that stand aside
abbrev pub aside_text : Asked → List (List ℕ) → List PieceParts → List ℕ
aside_text asked lines pieces = if annotates asked.to then kept_text asked lines pieces else []

-- ---- drawings with the lines that are kept in their place

-- how many more reports are drawn behind so many
abbrev pub still : Option ℕ → ℕ → Option ℕ
still most count = option_map (λ m. m - count) most

-- the reports of pieces with the lines that they begin with, and their drawings
abbrev pub reports_before : Asked → (List ℕ → Held) → List (List ℕ) → List ReadParts → List Found
reports_before asked given from before = reports_in (columns_of asked) given from before

abbrev pub drawings_before : Asked → (List ℕ → Held) → Option ℕ → List (List ℕ) → List ReadParts → List ℕ
drawings_before asked given most from before = first_drawings asked most (reports_before asked given from before)

-- pieces with the lines that they begin with are drawn as soon as a line is kept, behind them; kept lines are those of `shown`
unfoldable pub in_place : Asked → (List ℕ → Held) → Option ℕ → List ReadParts → List (List ℕ) → List (List ℕ) → List (List ℕ) → List ReadParts → List ℕ
in_place asked given most before from lines shown [] = drawings_before asked given most from before
in_place asked given most before from lines shown (read ∷ reads) =
    let behind = drop read.piece.lines lines in
    let later = drop read.piece.lines shown in
    let count = length (reports_before asked given from before) in
    if is_kept read.piece.begun.sort
    then drawings_before asked given most from before ++ kept_if asked (has_colors asked.theme) read.piece (take read.piece.lines shown)
    ++ in_place asked given (still most count) [] behind behind later reads
    else in_place asked given most (before ++ read ∷ []) from behind later reads

-- lines are shown as they came where the theme has colors, else as they were read
abbrev pub shown_of : Asked → List (List ℕ) → List (List ℕ) → List (List ℕ)
shown_of asked lines came = if has_colors asked.theme then came else lines

-- what is written of pieces of lines, which came so: the annotations of all reports, or drawings with the kept lines in their place
unfoldable pub written : Asked → (List ℕ → Held) → Option ℕ → List (List ℕ) → List (List ℕ) → List ReadParts → List ℕ
written asked given most lines came reads =
    if annotates asked.to
    then ci_text ci.Github asked.raw (reports_in (columns_of asked) given lines reads)
    else in_place asked given most [] lines lines (shown_of asked lines came) reads
