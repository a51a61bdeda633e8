-- The drawings of an excerpt, laid over the source.
use Rattle.std.specs.Prelude.{ℕ, ◌+◌, ◌-◌, ◌*◌, ◌==◌, ◌&&◌, nat_le, nat_lt, if◌then◌else◌, Bool, true, false, List, [], ◌∷◌, ◌++◌, length, drop, map, slice_range, slice_index_or, string_bytes, Option, Some, None, option_map, option_and_then, IfSome}
use Rattle.std.specs.List.{All, list_all}
use Rattle.std.specs.Option.{is_some}
use Rattle.std.specs.Str.{IsCharBoundary, chars}
use Rattle.excerpt_blocks.specs.declared.below.Row.{Row as PrintedRow}
use Rattle.excerpt_lines.specs.Cells.{over_cell}
use Rattle.excerpt_rows.specs.Aligned.{AlignedParts, aligned_parts, alignment_of, offset_in}
use Rattle.excerpt_texts.specs.Labels.{DrawnParts, block_labels}
use Rattle.excerpt_texts.specs.Lines.{first_flag, line_at}
use Rattle.excerpts.specs.Body.{BlockRead}
use Rattle.line_shapes.specs.declared.tables.Unit.TheVariants.{Bytes}
use Rattle.sarif_spans.specs.declared.rows.Row.{Row}
use Rattle.sarif_spans.specs.Rows.{IsRowOf, rows_in}
use Rattle.found_reports.specs.Found.{StandsIn}
use Rattle.oxc_span.specs.Label.{Label}
use Rattle.line_reports.specs.declared.aim.Aim.{Aim}
use Rattle.line_reports.specs.declared.drawings.Laid.{Laid}
use Rattle.line_reports.specs.declared.placed.Placed.{Placed}
use Rattle.line_reports.specs.declared.drawings.Drawings.{Drawings}
use Rattle.line_reports.specs.Span.{breaks, place_in, row_numbered}

-- a printed row that is a row of the source, and where a mark is that was set by the number of the finding's column
pub record LaidParts : Type 0 where
  pub aligned : AlignedParts
  pub row : Row
  pub counted : Option ℕ

abbrev pub laid_parts : Laid → LaidParts
laid_parts laid = record { aligned = aligned_parts laid.alignment; row = laid.row; counted = laid.counted }

abbrev pub printed_text : List (List ℕ) → PrintedRow → List ℕ
printed_text lines row = drop row.text (line_at lines row.line)

-- a row of the source isn't much longer than a printed one
abbrev pub is_near : Row → List ℕ → Bool
is_near row printed = nat_le (row.end - row.start) (256 * (1 + length printed))

-- in the finding's row: the character over the cell of that number, as if each column were a cell
abbrev pub counted_in : Option Aim → List ℕ → Row → Option ℕ
counted_in None printed row = None
counted_in (Some aim) printed row = if nat_le row.start aim.start && nat_le aim.start row.end then Some (over_cell printed aim.count) else None

abbrev pub laid_over : List ℕ → Option Aim → List ℕ → Row → Option LaidParts
laid_over text aim printed row =
    if is_near row printed then option_map (λ aligned. record { aligned = aligned; row = row; counted = counted_in aim printed row }) (alignment_of printed (chars (slice_range text row.start row.end))) else None

-- a printed row, laid over the row of its number
unfoldable pub laid_row : List ℕ → Option Aim → List (List ℕ) → PrintedRow → Option LaidParts
laid_row text aim lines row = option_and_then (laid_over text aim (printed_text lines row)) (row_numbered (rows_in breaks text) row.number)

-- the place of a character of a printed row, and the row that it is in
abbrev pub place_on : List ℕ → Option LaidParts → ℕ → Option (ℕ × Row)
place_on text None column = None
place_on text (Some laid) column = Some (place_in Bytes (offset_in laid.aligned column) text laid.row, laid.row)

-- a label in the source, from an offset on, and the row in which it begins
pub record PlacedParts : Type 0 where
  pub start : ℕ
  pub len : ℕ
  pub row : Row
  pub primary : Bool
  pub text : Option (List ℕ)

abbrev pub placed_parts : Placed → PlacedParts
placed_parts placed = record { start = placed.start; len = placed.len; row = placed.row; primary = placed.primary; text = option_map string_bytes placed.text }

-- which blocks are shown by labels, and all these labels
pub record DrawingsParts : Type 0 where
  pub shown : List Bool
  pub labels : List PlacedParts

abbrev pub drawings_parts : Drawings → DrawingsParts
drawings_parts drawings = record { shown = drawings.shown.items; labels = map placed_parts drawings.labels.items }

abbrev pub other_label : PlacedParts → Label
other_label placed = record { text = placed.text; offset = placed.start; len = placed.len; primary = false }

abbrev pub is_at : Option ℕ → ℕ → Bool
is_at None column = false
is_at (Some counted) column = counted == column

abbrev pub counted_on : Option LaidParts → Option ℕ
counted_on None = None
counted_on (Some laid) = laid.counted

-- from where to where a mark is meant: one that was set by the number of the finding's column is over the finding, if that begins before it
abbrev pub meant : Option Aim → Bool → ℕ × ℕ → ℕ × ℕ
meant None counted ends = ends
meant (Some aim) counted ends = if counted && nat_lt aim.start ends.0 then (aim.start, aim.end) else ends

abbrev pub placed_over : DrawnParts → Row → ℕ × ℕ → PlacedParts
placed_over label row ends = record { start = ends.0; len = ends.1 - ends.0; row = row; primary = label.primary; text = label.text }

abbrev pub placed_between : Option Aim → Bool → DrawnParts → Option (ℕ × Row) → Option (ℕ × Row) → Option PlacedParts
placed_between aim counted label None end = None
placed_between aim counted label (Some start) None = None
placed_between aim counted label (Some start) (Some end) = Some (placed_over label start.1 (meant aim counted (start.0, end.0)))

abbrev pub laid_at : List (Option LaidParts) → ℕ → Option LaidParts
laid_at laid row = slice_index_or laid row None

unfoldable pub placed_by : List ℕ → Option Aim → List (Option LaidParts) → DrawnParts → Option PlacedParts
placed_by text aim laid label = placed_between aim (label.primary && is_at (counted_on (laid_at laid label.start_row)) label.start) label (place_on text (laid_at laid label.start_row) label.start) (place_on text (laid_at laid label.row) label.end)

abbrev pub with_placed : Option (List PlacedParts) → Option PlacedParts → Option (List PlacedParts)
with_placed None more = None
with_placed (Some all) None = None
with_placed (Some all) (Some more) = Some (all ++ more ∷ [])

-- labels after others; none if one of them has no place
abbrev pub placed_from : List ℕ → Option Aim → List (Option LaidParts) → Option (List PlacedParts) → List DrawnParts → Option (List PlacedParts)
placed_from text aim laid before [] = before
placed_from text aim laid before (label ∷ labels) = placed_from text aim laid (with_placed before (placed_by text aim laid label)) labels

abbrev pub all_laid : List (Option LaidParts) → Bool
all_laid laid = list_all is_some laid

abbrev pub begun_with : Bool → Option (List PlacedParts)
begun_with true = Some []
begun_with false = None

-- the labels of a block, if each of its printed rows is a row of the source
unfoldable pub block_placed : List ℕ → Option Aim → List (List ℕ) → BlockRead → Option (List PlacedParts)
block_placed text aim lines block =
    let laid = map (laid_row text aim lines) block.below.rows in placed_from text aim laid (begun_with (all_laid laid)) (block_labels lines block)

abbrev pub placed_if : Bool → List ℕ → Option Aim → List (List ℕ) → BlockRead → Option (List PlacedParts)
placed_if true text aim lines block = block_placed text aim lines block
placed_if false text aim lines block = None

abbrev pub with_block : DrawingsParts → Option (List PlacedParts) → DrawingsParts
with_block before None = record before { shown = before.shown ++ false ∷ [] }
with_block before (Some more) = record { shown = before.shown ++ true ∷ []; labels = before.labels ++ more }

-- blocks after others: those with a flag are shown by their labels, if they can be
abbrev pub shown_from : List ℕ → Option Aim → List (List ℕ) → DrawingsParts → List Bool → List BlockRead → DrawingsParts
shown_from text aim lines before flags [] = before
shown_from text aim lines before flags (block ∷ blocks) = shown_from text aim lines (with_block before (placed_if (first_flag flags) text aim lines block)) (drop 1 flags) blocks

abbrev pub no_drawings : DrawingsParts
no_drawings = record { shown = []; labels = [] }

unfoldable pub shown_in : List ℕ → Option Aim → List (List ℕ) → List Bool → List BlockRead → DrawingsParts
shown_in text aim lines flags blocks = shown_from text aim lines no_drawings flags blocks

-- ---- in a text

-- a finding's span is cut where characters begin
pub record AimStands (text : List ℕ) (aim : Aim) : Type 0 where
  pub start : IsCharBoundary text aim.start
  pub end : IsCharBoundary text aim.end

-- each row that is laid is one of the text
abbrev pub LaidStand : List ℕ → List (Option LaidParts) → Type 0
LaidStand text laid = All (λ it. IfSome it (λ row. IsRowOf text row.row)) laid

abbrev pub PlacedStand : List ℕ → List PlacedParts → Type 0
PlacedStand text placed = All (λ it. StandsIn text (other_label it)) placed
