-- The reports of findings.
use Rattle.std.specs.Prelude.{ℕ, ◌==◌, ◌&&◌, true, List, [], ◌∷◌, ◌++◌, if◌then◌else◌, Option, Some, None, option_and_then, Bool, false}
use Rattle.std.specs.List.{filter_map}
use Rattle.std.specs.Option.{is_none, option_or, option_to_list}
use Rattle.std.specs.Str.{bytes_eq}
use Rattle.std.specs.declared.ops.Range.{Range}
use Rattle.oxc_span.specs.Label.{Label}
use Rattle.oxc_protocol.specs.Code.{CodeParts}
use Rattle.oxc_protocol.specs.Parts.{OxcParts, bare_diagnostic}
use Rattle.found_reports.specs.Found.{Found, NamedHeld, found_on}
use Rattle.found_reports.specs.Held.{Held}
use Rattle.found_reports.specs.declared.places.GivenPlace.{GivenPlace}
use Rattle.json_forms.specs.Finding.{Beside, Finding, said, wrong_at}
use Rattle.json_forms.specs.declared.form.SideKind.{SideKind}
use Rattle.json_forms.specs.declared.form.SideKind.TheVariants as kinds
use Rattle.line_reports.specs.Reports.{label_of, named_file, number_in}
use Rattle.json_reports.specs.Marks.{Mark, file_of, label_beside, mark_of, name_of}
use Rattle.json_reports.specs.Spans.{given_of, held_span}

-- ---- the code

abbrev pub filled : Option (List ℕ) → Option (List ℕ)
filled text = option_and_then number_in text

abbrev pub scope_with : Option (List ℕ) → Option (List ℕ) → Option (List ℕ)
scope_with None scope = None
scope_with (Some number) scope = filled scope

-- a scope counts only with a number
abbrev pub code_of : Finding → CodeParts
code_of it = record { scope = scope_with (filled it.code) it.scope; number = filled it.code }

-- ---- help and note

abbrev pub kind_number : SideKind → ℕ
kind_number kinds.Place = 0
kind_number kinds.Label = 1
kind_number kinds.Edit = 2
kind_number kinds.Note = 3

-- what a side of a kind says
abbrev pub said_as : SideKind → Beside → Option (List ℕ)
said_as kind (said it) = if kind_number kind == kind_number it.kind then it.text else None
said_as kind (wrong_at spot fault) = None

abbrev pub lines_after : List (List ℕ) → List ℕ
lines_after [] = []
lines_after (line ∷ lines) = 0x0A ∷ (line ++ lines_after lines)

-- lines, one after another with LF between them
abbrev pub joined : List (List ℕ) → Option (List ℕ)
joined [] = None
joined (line ∷ lines) = Some (line ++ lines_after lines)

-- what the finding says, and then each side of a kind
abbrev pub lines_of : SideKind → Option (List ℕ) → List Beside → List (List ℕ)
lines_of kind own sides = option_to_list own ++ filter_map (said_as kind) sides

-- ---- the report

-- edits are help
unfoldable pub diagnostic_of : Finding → List Label → OxcParts
diagnostic_of it labels = record (bare_diagnostic it.severity it.message) {
  code = code_of it;
  labels = labels;
  help = joined (lines_of kinds.Edit it.help it.sides);
  note = joined (lines_of kinds.Note it.note it.sides);
  url = it.url;
}

abbrev pub is_in : List ℕ → Option (List ℕ) → Bool
is_in name None = true
is_in name (Some own) = bytes_eq own name

-- the span of a label in the file of this name
abbrev pub label_span : List ℕ → Held → Mark → Option (Range ℕ)
label_span name held mark = if is_in name mark.place.file then held_span held mark.place else None

abbrev pub is_same : Range ℕ → Range ℕ → Bool
is_same head range = head.start == range.start && head.end == range.end

abbrev pub text_by : Range ℕ → Option (List ℕ) → Option (Range ℕ) → Option (List ℕ)
text_by head text None = None
text_by head text (Some range) = if is_same head range then text else None

abbrev pub text_at : List ℕ → Held → Range ℕ → Option Mark → Option (List ℕ)
text_at name held head None = None
text_at name held head (Some mark) = text_by head mark.text (label_span name held mark)

-- what the first label with a text over this span says
abbrev pub text_over : List ℕ → Held → Range ℕ → List Beside → Option (List ℕ)
text_over name held head [] = None
text_over name held head (side ∷ sides) = option_or (text_at name held head (label_beside side)) (text_over name held head sides)

abbrev pub label_by : Range ℕ → Option (List ℕ) → Option (Range ℕ) → Option Label
label_by head text None = None
label_by head text (Some range) = if is_same head range then None else Some (label_of text false range)

abbrev pub label_at : List ℕ → Held → Range ℕ → Option Mark → Option Label
label_at name held head None = None
label_at name held head (Some mark) = label_by head mark.text (label_span name held mark)

-- a label in the same file over another span
abbrev pub further : List ℕ → Held → Range ℕ → Beside → Option Label
further name held head side = label_at name held head (label_beside side)

-- the finding's span, and then the other labels in the same file; a label over the finding's span gives its text
abbrev pub labels_of : List ℕ → Held → Option (List ℕ) → List Beside → Option (Range ℕ) → List Label
labels_of name held text sides None = []
labels_of name held text sides (Some head) = label_of (option_or text (text_over name held head sides)) true head ∷ filter_map (further name held head) sides

abbrev pub place_or : Finding → GivenPlace → Option GivenPlace
place_or it place = if is_none (file_of it) && is_none place.line then None else Some place

-- a finding without a span keeps its place, if it has a file or a row
abbrev pub kept_place : Finding → Option (Range ℕ) → Option GivenPlace
kept_place it None = place_or it (given_of (mark_of it).place.span)
kept_place it (Some range) = None

-- the report of a finding in this file
abbrev pub report_in : NamedHeld → Finding → Found
report_in file it =
    let span = held_span file.held (mark_of it).place in found_on file (diagnostic_of it (labels_of (name_of it) file.held (mark_of it).text it.sides span)) (kept_place it span)

-- the report of a finding, where this is told of names
abbrev pub report_of : (List ℕ → Held) → Finding → Found
report_of told it = report_in (named_file told (name_of it)) it
