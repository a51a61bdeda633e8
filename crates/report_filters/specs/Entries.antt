-- The findings of reports, as filters read them.
use Rattle.std.specs.Prelude.{ℕ, ◌+◌, ◌-◌, ◌==◌, ◌&&◌, ◌||◌, not, min, Bool, true, false, List, [], ◌∷◌, ◌++◌, length, slice_range, Option, Some, None, unwrap_or, is_none, string_bytes, if◌then◌else◌}
use Rattle.std.specs.List.{prefix_len, suffix_len}
use Rattle.std.specs.Str.Lossy.{utf8_lossy}
use Rattle.oxc_span.specs.Label.{Label}
use Rattle.oxc_span.specs.Views.{text_bytes}
use Rattle.oxc_protocol.specs.Code.{CodeParts}
use Rattle.oxc_protocol.specs.Parts.{OxcParts}
use Rattle.oxc_protocol.specs.declared.protocol.Severity.{Severity}
use Rattle.oxc_protocol.specs.declared.protocol.Severity.TheVariants.{Advice, Warning, Error}
use Rattle.found_reports.specs.Found.{Found}
use Rattle.found_reports.specs.Held.{Held, holds, lacks}
use Rattle.found_reports.specs.declared.reports.FoundReport.{FoundReport}
use Rattle.ci_formats.specs.Finding.{finding_of}
use Rattle.ci_formats.specs.declared.finding.Location.{Location}
use Rattle.changed_rows.specs.Names.{plain_name}
use Rattle.finding_filters.specs.Finding.{FindingParts}
use Rattle.finding_filters.specs.declared.finding.Spot.{Spot}
use Rattle.report_filters.specs.declared.entries.Entry.{Entry}

abbrev pub entry_parts : Entry → FindingParts
entry_parts it = record {
  file = string_bytes it.file;
  start = it.start;
  end = it.end;
  severity = it.severity;
  scope = string_bytes it.scope;
  code = string_bytes it.code;
  message = string_bytes it.message;
  row_text = text_bytes it.row_text;
  reports = it.reports;
}

abbrev pub spot_of : Location → Spot
spot_of it = record { row = it.row; column = it.column }

-- ---- the text of a row

-- how many bytes of a row count on each side of a place
abbrev pub near : ℕ
near = 1000

-- no byte of a break
abbrev pub is_inner : ℕ → Bool
is_inner byte = not (byte == 0x0A || byte == 0x0D)

-- how many bytes of the row come before a place, and after it
abbrev pub before_in : List ℕ → ℕ → ℕ
before_in text at = suffix_len is_inner (slice_range text (at - near) at)

abbrev pub after_in : List ℕ → ℕ → ℕ
after_in text at = prefix_len is_inner (slice_range text at (min (at + near) (length text)))

-- the text of the row of a place, as far as it is near
unfoldable pub row_near : List ℕ → ℕ → List ℕ
row_near text at = utf8_lossy (slice_range text (at - before_in text at) (at + after_in text at))

-- the text of the row of a report: where its first label starts
abbrev pub row_of : Held → List Label → Option (List ℕ)
row_of (holds text) [] = None
row_of (holds text) (head ∷ others) = Some (row_near text head.offset)
row_of (lacks why) labels = None

abbrev pub row_if : Bool → Held → List Label → Option (List ℕ)
row_if rows held labels = if rows then row_of held labels else None

-- ---- findings

-- the finding of a report, which has so many reports; its file is named as seen from a folder
unfoldable pub entry_of : List ℕ → Bool → ℕ → Found → FindingParts
entry_of front rows reports it = record {
  file = plain_name front it.name;
  start = spot_of (finding_of it).start;
  end = spot_of (finding_of it).end;
  severity = it.diagnostic.severity;
  scope = unwrap_or it.diagnostic.code.scope [];
  code = unwrap_or it.diagnostic.code.number [];
  message = it.diagnostic.message;
  row_text = row_if rows it.held it.diagnostic.labels;
  reports = reports;
}

abbrev pub is_advice : Severity → Bool
is_advice Advice = true
is_advice Warning = false
is_advice Error = false

-- a report that only says more of the finding before it: advice without a code
abbrev pub has_none : CodeParts → Bool
has_none code = is_none code.scope && is_none code.number

unfoldable pub is_more : OxcParts → Bool
is_more it = is_advice it.severity && has_none it.code

abbrev pub is_note : Found → Bool
is_note it = is_more it.diagnostic

abbrev pub notes_first : Bool → List Found → ℕ
notes_first notes found = if notes then prefix_len is_note found else 0

-- the same of reports that are kept with their files
abbrev pub notes_in : Bool → List FoundReport → ℕ
notes_in notes reports = if notes then prefix_len (λ report. is_more report.diagnostic) reports else 0

-- the finding of a report before others: none if it is a note of one before it
unfoldable pub new_entry : List ℕ → Bool → Bool → Bool → Found → List Found → List FindingParts
new_entry front rows notes inside it rest = if (notes && inside) && is_note it then [] else entry_of front rows (notes_first notes rest + 1) it ∷ []

-- the findings of reports; with notes, those that follow a finding are its own
abbrev pub entries_from : List ℕ → Bool → Bool → Bool → List Found → List FindingParts
entries_from front rows notes inside [] = []
entries_from front rows notes inside (it ∷ rest) = new_entry front rows notes inside it rest ++ entries_from front rows notes true rest

abbrev pub entries_of : List ℕ → Bool → Bool → List Found → List FindingParts
entries_of front rows notes found = entries_from front rows notes false found
