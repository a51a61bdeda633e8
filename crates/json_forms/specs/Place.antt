-- Where a finding is.
use Rattle.std.specs.Prelude.{ℕ, ◌+◌, ◌-◌, ◌==◌, ◌&&◌, List, length, Bool, true, false, not, if◌then◌else◌, nat_lt, nat_le, max, Option, Some, None, option_map, option_and_then, unwrap_or}
use Rattle.std.specs.Borrow.{Bor}
use Rattle.std.specs.Char.{is_ascii_digit}
use Rattle.std.specs.List.{list_all}
use Rattle.std.specs.Path.{rsplit_once}
use Rattle.numerals.specs.Numerals.{number_in}
use Rattle.json_spots.specs.declared.step.Path.{Path}
use Rattle.json_spots.specs.declared.step.Wanted.TheVariants as wanted
use Rattle.json_spots.specs.Said.{Said, nothing, words, figure as figure_said, truth, other, said_at}
use Rattle.json_spots.specs.Spot.{Spot}
use Rattle.json_forms.specs.declared.form.Row.{Row}
use Rattle.json_forms.specs.declared.form.Unit as code_unit
use Rattle.json_forms.specs.declared.place.Figures.{Figures}
use Rattle.json_forms.specs.declared.place.End.{End}
use Rattle.json_forms.specs.declared.place.Span.{Span}
use Rattle.json_forms.specs.declared.place.Place as code_place
use Rattle.json_forms.specs.declared.posn.Posn as code_posn
use Rattle.json_forms.specs.declared.keys.TheConstants as keys
use Rattle.json_forms.specs.Rows.{part, is_said, unit_of}
use Rattle.json_forms.specs.Said.{Fault, at_path, bounded, number_at, number_of, pick, text_at}

-- the number from 1 of one from `first`, or of the one before it
abbrev pub above_number : ℕ → ℕ → Option ℕ
above_number first n = if nat_lt n first then None else Some (n - first + 1)

abbrev pub above : ℕ → Bool → Option ℕ → Option ℕ
above first more number = option_and_then (λ n. above_number first (if more then n + 1 else n)) number

abbrev pub row_end : Option ℕ → Option End
row_end line = option_map (λ l. record { line = l; column = None }) line

-- by a column, by a length, or by a row alone
abbrev pub end_among : ℕ → Option ℕ → Option ℕ → Option ℕ → Option ℕ → Option End
end_among line None end_line end_column length = row_end end_line
end_among line (Some column) end_line (Some end) length = Some (record { line = unwrap_or end_line line; column = Some end })
end_among line (Some column) end_line None (Some length) = Some (record { line = line; column = Some (column + length) })
end_among line (Some column) end_line None None = row_end end_line

abbrev pub asked_end : Figures → ℕ → Option ℕ → Option End
asked_end figures line column =
    end_among line column (above figures.first_line false figures.end_line) (above figures.first_column figures.is_last figures.end_column) figures.length

abbrev pub is_column_ordered : Option ℕ → Option ℕ → Bool
is_column_ordered None end = true
is_column_ordered (Some column) None = false
is_column_ordered (Some column) (Some end) = nat_le column end

-- whether an end isn't before the start
abbrev pub is_ordered : ℕ → Option ℕ → End → Bool
is_ordered line column end = if end.line == line then is_column_ordered column end.column else nat_lt line end.line

abbrev pub end_of : Figures → ℕ → Option ℕ → Option End
end_of figures line column = option_and_then (λ end. if is_ordered line column end then Some end else None) (asked_end figures line column)

abbrev pub span_from : Figures → Option ℕ → Span
span_from figures None = record { line = None; column = None; end = None }
span_from figures (Some line) =
    let column = above figures.first_column false figures.column in
    record { line = Some line; column = column; end = end_of figures line column }

-- rows and columns; without a row there is no column, without a start no end
unfoldable pub span_of : Figures → Span
span_of figures = span_from figures (above figures.first_line false figures.line)

abbrev pub offset_end : ℕ → Option ℕ → Option ℕ → ℕ
offset_end start None None = start
offset_end start None (Some length) = start + length
offset_end start (Some end) length = max start end

abbrev pub offsets_of : Figures → Option (ℕ × ℕ)
offsets_of figures = option_map (λ start. (start, offset_end start figures.end_offset figures.length)) figures.offset

-- the paths under a key, or those under the key that counts from 0
abbrev pub either : List Row → List ℕ → List ℕ → List Path
either rows key from_zero = if length (part rows key) == 0 then part rows from_zero else part rows key

abbrev pub first_of : List Row → List ℕ → List ℕ → ℕ
first_of rows key from_zero = if (length (part rows key) == 0) && not (length (part rows from_zero) == 0) then 0 else 1

-- each number is what its row says
unfoldable pub figures_at : List Row → Spot → Figures
figures_at rows spot =
    record {
      line = number_at (either rows keys.LINE.now keys.LINE0.now) spot;
      column = number_at (either rows keys.COLUMN.now keys.COLUMN0.now) spot;
      end_line = number_at (part rows keys.END_LINE.now) spot;
      end_column = number_at (part rows keys.END_COLUMN.now) spot;
      length = number_at (part rows keys.LENGTH.now) spot;
      offset = number_at (part rows keys.OFFSET.now) spot;
      end_offset = number_at (part rows keys.END_OFFSET.now) spot;
      first_line = first_of rows keys.LINE.now keys.LINE0.now;
      first_column = first_of rows keys.COLUMN.now keys.COLUMN0.now;
      is_last = is_said rows keys.END.now keys.LAST.now;
    }

-- ---- a place in one text, as `a.go:26:2` or `a.go:26`

pub record Posn : Type 0 where
  pub file : Option (List ℕ)
  pub line : ℕ
  pub column : Option ℕ

abbrev pub is_figures : List ℕ → Bool
is_figures text = not (length text == 0) && list_all is_ascii_digit text

abbrev pub if_figures : List ℕ × List ℕ → Option (List ℕ × List ℕ)
if_figures cut = if is_figures cut.1 then Some cut else None

-- what stands before the last `:`, and the digits behind it
abbrev pub figure_behind : List ℕ → Option (List ℕ × List ℕ)
figure_behind text = option_and_then if_figures (rsplit_once 0x3A text)

-- the number of digits, if it is below 2^32
abbrev pub figure : List ℕ → Option ℕ
figure digits = number_of (bounded (number_in digits))

abbrev pub named : List ℕ → Option (List ℕ)
named file = if length file == 0 then None else Some file

abbrev pub posn_row : List ℕ → List ℕ → Option Posn
posn_row file line = option_map (λ l. record { file = named file; line = l; column = None }) (figure line)

abbrev pub posn_both : List ℕ → List ℕ → List ℕ → Option Posn
posn_both file line column = option_and_then (λ l. option_map (λ c. record { file = named file; line = l; column = Some c }) (figure column)) (figure line)

abbrev pub posn_by : List ℕ × List ℕ → Option (List ℕ × List ℕ) → Option Posn
posn_by last None = posn_row last.0 last.1
posn_by last (Some row) = posn_both row.0 row.1 last.1

-- the text up to the last two `:` with digits, or to the last one, is the file
unfoldable pub posn_in : List ℕ → Option Posn
posn_in text = option_and_then (λ last. posn_by last (figure_behind last.0)) (figure_behind text)

unfoldable pub posn_at : List Path → Spot → Option Posn
posn_at paths spot = option_and_then posn_in (text_at paths spot)

abbrev pub unlike_posn : Path → Option Posn → Option Fault
unlike_posn path None = at_path path wanted.Number
unlike_posn path (Some posn) = None

abbrev pub posn_wanted : Path → Said → Option Fault
posn_wanted path nothing = None
posn_wanted path (words text) = unlike_posn path (posn_in text)
posn_wanted path (figure_said text) = unlike_posn path (posn_in text)
posn_wanted path (truth b) = at_path path wanted.Text
posn_wanted path other = at_path path wanted.Text

-- where a text should say a place, and doesn't: it has no number where one should be, or it is no text
unfoldable pub posn_fault : List Path → Spot → Option Fault
posn_fault paths spot = option_and_then (λ path. posn_wanted path (said_at path spot)) (pick paths spot)

-- such a place counts from 1, and before the rows of its parts
abbrev pub with_posn : Option Posn → Figures → Figures
with_posn None figures = figures
with_posn (Some posn) figures = record figures { line = Some posn.line; column = posn.column; first_line = 1; first_column = 1 }

abbrev pub file_with : Option Posn → Option (List ℕ) → Option (List ℕ)
file_with None file = file
file_with (Some posn) file = posn.file

abbrev pub cut_view : Bor (List ℕ) × Bor (List ℕ) → List ℕ × List ℕ
cut_view cut = (cut.0.now, cut.1.now)

abbrev pub posn_view : code_posn.Posn → Posn
posn_view posn = record { file = option_map (λ text. text.now) posn.file; line = posn.line; column = posn.column }

-- ---- places

pub record Place : Type 0 where
  pub file : Option (List ℕ)
  pub span : Span
  pub offsets : Option (ℕ × ℕ)
  pub unit : code_unit.Unit

abbrev pub place_by : List Row → Option Posn → Option (List ℕ) → Figures → Place
place_by rows posn file figures =
    record {
      file = file_with posn file;
      span = span_of (with_posn posn figures);
      offsets = offsets_of (with_posn posn figures);
      unit = unit_of rows;
    }

unfoldable pub place_at : List Row → Spot → Place
place_at rows spot = place_by rows (posn_at (part rows keys.POSN.now) spot) (text_at (part rows keys.FILE.now) spot) (figures_at rows spot)

abbrev pub place_view : code_place.Place → Place
place_view place =
    record {
      file = option_map (λ text. text.now) place.file;
      span = place.span;
      offsets = place.offsets;
      unit = place.unit;
    }
