-- A report as JSON.
use Rattle.std.specs.Prelude.{ℕ, ◌+◌, List, [], ◌∷◌, ◌++◌, length, Option, Some, None, option_map, unwrap_or, codes, decimal}
use Rattle.std.specs.List.{flat_map}
use Rattle.oxc_span.specs.Label.{Label, label_end}
use Rattle.oxc_windows.specs.declared.window.Window.{Window}
use Rattle.oxc_windows.specs.Breaks.{breaks_of}
use Rattle.oxc_windows.specs.Window.{window_of}
use Rattle.oxc_protocol.specs.Parts.{Parts}
use Rattle.oxc_protocol.specs.Source.{SourceParts}
use Rattle.oxc_protocol.specs.declared.protocol.Severity.{Severity}
use Rattle.oxc_protocol.specs.declared.protocol.Severity.TheVariants.{Error, Warning, Advice}
use Rattle.oxc_handlers.specs.declared.json_report.places.Place.{Place}
use Rattle.oxc_handlers.specs.JsonEscape.{escape}

-- the word for a severity; one that is missing is an error
abbrev pub severity_name : Option Severity → List ℕ
severity_name None = codes "error"
severity_name (Some Error) = codes "error"
severity_name (Some Warning) = codes "warning"
severity_name (Some Advice) = codes "advice"

-- a name that is missing is empty
abbrev pub name_or_empty : SourceParts → List ℕ
name_or_empty source = unwrap_or source.name []

-- the name under which a report's source is shown, where there is a source
abbrev pub file_name : Option SourceParts → Option (List ℕ)
file_name source = option_map name_or_empty source

abbrev pub source_bytes : Option SourceParts → Option (List ℕ)
source_bytes source = option_map (λ s. s.bytes) source

-- the place of a window that has no rows of context: its line and its column, from 1
abbrev pub window_place : Window → Place
window_place window = record { line = window.line + 1; column = window.column + 1 }

-- where a label starts in a source; none without a source, and none where the label ends past it
abbrev pub label_place : Option (List ℕ) → Label → Option Place
label_place None label = None
label_place (Some bytes) label = option_map window_place (window_of (length bytes) (breaks_of bytes) 0 0 label.offset (label_end label))

-- a key, and the space before its value
unfoldable pub key_text : List ℕ → List ℕ
key_text key = codes "\"" ++ key ++ codes "\": "

-- a key with a text, and the comma before what follows
unfoldable pub text_member : List ℕ → List ℕ → List ℕ
text_member key text = key_text key ++ codes "\"" ++ escape text ++ codes "\","

-- the same where there is a text
abbrev pub optional_member : List ℕ → Option (List ℕ) → List ℕ
optional_member key None = []
optional_member key (Some text) = text_member key text

-- a key with a number, and the comma before what follows
unfoldable pub number_member : List ℕ → ℕ → List ℕ
number_member key number = key_text key ++ decimal number ++ codes ","

-- line and column of a place, or nulls
unfoldable pub place_members : Option Place → List ℕ
place_members None = key_text (codes "line") ++ codes "null," ++ key_text (codes "column") ++ codes "null"
place_members (Some place) = number_member (codes "line") place.line ++ key_text (codes "column") ++ decimal place.column

-- the bytes that a label covers, and where it starts
unfoldable pub span_object : Option Place → Label → List ℕ
span_object place label =
    codes "{" ++ number_member (codes "offset") label.offset ++ number_member (codes "length") label.len ++ place_members place ++ codes "}"

-- a label of a report on such a source
unfoldable pub label_object : Option (List ℕ) → Label → List ℕ
label_object source label =
    codes "{" ++ optional_member (codes "label") label.text ++ key_text (codes "span") ++ span_object (label_place source label) label ++ codes "}"

-- a label behind others
unfoldable pub later_label : Option (List ℕ) → Label → List ℕ
later_label source label = codes "," ++ label_object source label

-- labels in their given order, with commas between
unfoldable pub label_list : Option (List ℕ) → List Label → List ℕ
label_list source [] = []
label_list source (label ∷ later) = label_object source label ++ flat_map (later_label source) later

unfoldable pub labels_member : Option (List ℕ) → List Label → List ℕ
labels_member source labels = key_text (codes "labels") ++ codes "[" ++ label_list source labels ++ codes "]"

-- what a report may have besides its message, code and severity
unfoldable pub details : Parts → List ℕ
details report =
    optional_member (codes "url") report.url
    ++ optional_member (codes "help") report.help
    ++ optional_member (codes "note") report.note
    ++ optional_member (codes "filename") (file_name report.source)

-- the report: one object without line breaks, with a space behind each colon and no other outside texts
unfoldable pub json_of : Parts → List ℕ
json_of report =
    codes "{" ++ text_member (codes "message") report.message
    ++ optional_member (codes "code") report.code
    ++ text_member (codes "severity") (severity_name report.severity)
    ++ details report
    ++ labels_member (source_bytes report.source) report.labels ++ codes "}"
