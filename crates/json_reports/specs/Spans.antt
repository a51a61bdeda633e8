-- The spans of places in texts.
use Rattle.std.specs.Prelude.{ℕ, false, List, length, min, Option, Some, None, option_map, option_and_then, slice_range, unwrap_or}
use Rattle.std.specs.Str.{chars}
use Rattle.sarif_spans.specs.Rows.{rows_in}
use Rattle.sarif_spans.specs.Span.{floor_of}
use Rattle.std.specs.declared.ops.Range.{Range}
use Rattle.json_forms.specs.Place.{Place}
use Rattle.json_forms.specs.declared.form.Unit as code_unit
use Rattle.json_forms.specs.declared.form.Unit.TheVariants as units
use Rattle.json_forms.specs.declared.place.End.{End}
use Rattle.json_forms.specs.declared.place.Span.{Span}
use Rattle.found_reports.specs.Held.{Held, holds, lacks}
use Rattle.found_reports.specs.declared.places.GivenPlace.{GivenPlace}
use Rattle.line_shapes.specs.declared.tables.Unit.{Unit}
use Rattle.line_shapes.specs.declared.tables.Unit.TheVariants.{Bytes, Characters, Utf16}
use Rattle.line_shapes.specs.declared.tools.Columns.{Columns}
use Rattle.line_reports.specs.Span.{breaks, range_of, row_numbered, span_of}
use Rattle.line_reports.specs.declared.spans.Spot.{Spot}
use Rattle.json_reports.specs.declared.cells.Cells.{Cells}
use Rattle.json_reports.specs.Cells.{cells_of, char_column}

-- the largest number of a row or a column; a greater one is past each text too
abbrev pub clip : ℕ → ℕ
clip n = min n 4294967295

-- rows and columns, from 1
abbrev pub given_of : Span → GivenPlace
given_of span = record {
  line = option_map clip span.line;
  column = option_map clip span.column;
  end_line = option_map (λ end. clip end.line) span.end;
  end_column = option_and_then (λ end. option_map clip end.column) span.end;
}

-- where the row of a number, from 1, is in a text
abbrev pub row_at : List ℕ → Option ℕ → Option (Range ℕ)
row_at text line = option_map (λ row. record { start = row.start; end = row.end }) (row_numbered (rows_in breaks text) line)

-- the column in characters of a column in cells of a row; none where the row isn't there
abbrev pub column_in : Cells → List ℕ → Option ℕ → ℕ → Option ℕ
column_in cells text line column = option_map (λ row. char_column cells (chars (slice_range text row.start row.end)) column) (row_at text line)

-- columns in cells become columns in characters
abbrev pub place_in : List ℕ → GivenPlace → Option Cells → GivenPlace
place_in text place None = place
place_in text place (Some cells) = record place {
  column = option_and_then (column_in cells text place.line) place.column;
  end_column = option_and_then (column_in cells text place.end_line) place.end_column;
}

-- an end without a column is the end of its row
abbrev pub with_end : Option End → GivenPlace → GivenPlace
with_end end place = record place { end_column = option_map (λ end. unwrap_or place.end_column 4294967295) end }

abbrev pub spot_of : code_unit.Unit → List ℕ → Span → Spot
spot_of unit text span = record { place = with_end span.end (place_in text (given_of span) (cells_of unit)); caret = None }

-- what columns count once those in cells are in characters
abbrev pub unit_of : code_unit.Unit → Unit
unit_of units.Bytes = Bytes
unit_of units.Characters = Characters
unit_of units.Utf16 = Utf16
unit_of units.Cells4 = Characters
unit_of units.Cells8 = Characters
unit_of units.Cells8Utf16 = Characters

abbrev pub columns_of : code_unit.Unit → Columns
columns_of unit = record { unit = unit_of unit; first = 1; with_end = false }

-- the start of the character that an offset is in, or the text's end
abbrev pub boundary_at : List ℕ → ℕ → ℕ
boundary_at text offset = floor_of text (min offset (length text))

abbrev pub by_bytes : List ℕ → ℕ × ℕ → Range ℕ
by_bytes text offsets = range_of (boundary_at text offsets.0) (boundary_at text offsets.1)

-- offsets count if they are in bytes
abbrev pub byte_offsets : code_unit.Unit → Option (ℕ × ℕ) → Option (ℕ × ℕ)
byte_offsets units.Bytes offsets = offsets
byte_offsets units.Characters offsets = None
byte_offsets units.Utf16 offsets = None
byte_offsets units.Cells4 offsets = None
byte_offsets units.Cells8 offsets = None
byte_offsets units.Cells8Utf16 offsets = None

abbrev pub span_or : List ℕ → Place → Option (ℕ × ℕ) → Option (Range ℕ)
span_or text place (Some offsets) = Some (by_bytes text offsets)
span_or text place None = span_of (columns_of place.unit) text (spot_of place.unit text place.span)

-- by offsets, if they count; else by rows and columns
unfoldable pub span_in : List ℕ → Place → Option (Range ℕ)
span_in text place = span_or text place (byte_offsets place.unit place.offsets)

abbrev pub held_span : Held → Place → Option (Range ℕ)
held_span (holds text) place = span_in text place
held_span (lacks why) place = None
