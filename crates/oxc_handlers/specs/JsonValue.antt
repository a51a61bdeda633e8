-- The value that a report in JSON means.
use Rattle.std.specs.Prelude.{◌≡◌, ℕ, List, [], ◌∷◌, Option, Some, None, codes}
use Rattle.serde_json.specs.Data.{Data, null, number, string, array, object, Items, no_items, item, Members, no_members, put, unsigned}
use Rattle.serde_json.specs.Read.{read}
use Rattle.oxc_span.specs.Label.{Label}
use Rattle.oxc_protocol.specs.Parts.{Parts}
use Rattle.oxc_handlers.specs.declared.json_report.places.Place.{Place}
use Rattle.oxc_handlers.specs.JsonText.{severity_name, file_name, source_bytes, label_place, json_of}

-- the members, with a text under a key where there is one
abbrev pub with_text : List ℕ → Option (List ℕ) → Members → Members
with_text key None members = members
with_text key (Some text) members = put key (string text) members

abbrev pub whole : ℕ → Data
whole n = number (unsigned n)

abbrev pub with_place : Option Place → Members → Members
with_place None members = put (codes "column") null (put (codes "line") null members)
with_place (Some place) members = put (codes "column") (whole place.column) (put (codes "line") (whole place.line) members)

abbrev pub span_value : Option Place → Label → Data
span_value place label = object (with_place place (put (codes "length") (whole label.len) (put (codes "offset") (whole label.offset) no_members)))

abbrev pub label_value : Option (List ℕ) → Label → Data
label_value source label =
    object (put (codes "span") (span_value (label_place source label) label) (with_text (codes "label") label.text no_members))

abbrev pub label_values : Option (List ℕ) → List Label → Items
label_values source [] = no_items
label_values source (label ∷ later) = item (label_value source label) (label_values source later)

-- an object with the report's parts as they are
abbrev pub value_of : Parts → Data
value_of report =
    object (put (codes "labels") (array (label_values (source_bytes report.source) report.labels))
    (with_text (codes "filename") (file_name report.source)
    (with_text (codes "note") report.note
    (with_text (codes "help") report.help
    (with_text (codes "url") report.url
    (put (codes "severity") (string (severity_name report.severity))
    (with_text (codes "code") report.code
    (put (codes "message") (string report.message) no_members))))))))

-- what is written is read, as JSON, as the value that is meant
abbrev pub ReadsBack : Parts → Type 0
ReadsBack report = read (json_of report) ≡ Some (value_of report)
