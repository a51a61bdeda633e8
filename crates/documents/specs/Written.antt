-- The JSON value of source files and reports on them, as `write_document` writes it: what would say no more than its
-- default is left out. And the reports that it can say.
use Rattle.std.specs.Prelude.{◌≡◌, ◌≢◌, ℕ, ◌<◌, ◌≤◌, ◌^◌, List, [], ◌∷◌, length, map, All, Bool, true, false, if◌then◌else◌, Option, Some, None, option_map, codes}
use Rattle.std.specs.List.{list_all}
use Rattle.serde_json.specs.Data.{Data, number, unsigned, boolean, string, array, object, no_items, item, Members, no_members, put}
use Rattle.serde_json.specs.View.{items_of}
use Rattle.source_location.specs.declared.SourceLocation.{SourceLocation}
use Rattle.codespan.specs.Texts.{NamedText}
use Rattle.oxc_protocol.specs.declared.protocol.Severity.{Severity}
use Rattle.oxc_protocol.specs.declared.protocol.Severity.TheVariants.{Advice, Warning, Error}
use Rattle.oxc_protocol.specs.Parts.{OxcParts}
use Rattle.render_files.specs.declared.places.LabelPlace.{LabelPlace}
use Rattle.render_files.specs.declared.places.LabelPlace.TheVariants.{Rows, Bytes}
use Rattle.render_files.specs.Given.{GivenLabel, GivenReport}
use Rattle.documents.specs.declared.document.Version.{Version}
use Rattle.documents.specs.declared.document.Version.TheVariants.{One, Two}

-- the members with one more, where there is a value for it
abbrev pub put_some : List ℕ → Option Data → Members → Members
put_some key None members = members
put_some key (Some value) members = put key value members

abbrev pub whole_number : ℕ → Data
whole_number n = number (unsigned n)

abbrev pub two_numbers : ℕ → ℕ → Data
two_numbers first second = array (item (whole_number first) (item (whole_number second) no_items))

abbrev pub text_value : Option (List ℕ) → Option Data
text_value text = option_map (λ bytes. string bytes) text

-- a file
unfoldable pub file_value : NamedText → Data
file_value it = object (put (codes "source") (string it.text) (put (codes "name") (string it.name) no_members))

-- ---- labels

abbrev pub location_value : SourceLocation → Data
location_value it = two_numbers it.row it.column

abbrev pub place_members : LabelPlace → Members
place_members (Rows start end) =
    put (codes "start") (location_value start) (put (codes "end") (location_value end) no_members)
place_members (Bytes start end) = put (codes "bytes") (two_numbers start end) no_members

abbrev pub primary_value : Bool → Option Data
primary_value primary = if primary then Some (boolean true) else None

-- a label: where it stands as it is given, what it says, and whether it is primary
unfoldable pub label_value : GivenLabel → Data
label_value it =
    object (put_some (codes "primary") (primary_value it.primary)
    (put_some (codes "text") (text_value it.text) (place_members it.place)))

-- ---- reports

abbrev pub severity_value : Severity → Option Data
severity_value Advice = Some (string (codes "advice"))
severity_value Warning = Some (string (codes "warning"))
severity_value Error = None

abbrev pub labels_value : List GivenLabel → Option Data
labels_value [] = None
labels_value (first ∷ rest) = Some (array (items_of (map label_value (first ∷ rest))))

-- the members that say what is reported
unfoldable pub said_members : OxcParts → Members → Members
said_members it members =
    put_some (codes "url") (text_value it.url)
    (put_some (codes "note") (text_value it.note)
    (put_some (codes "help") (text_value it.help)
    (put_some (codes "number") (text_value it.code.number)
    (put_some (codes "scope") (text_value it.code.scope)
    (put_some (codes "severity") (severity_value it.severity)
    (put (codes "message") (string it.message) members))))))

-- a report: on which file, where, and what it says
unfoldable pub report_value : GivenReport → Data
report_value it =
    object (said_members it.diagnostic
    (put_some (codes "labels") (labels_value it.labels) (put (codes "file") (whole_number it.file) no_members)))

-- ---- the document

-- whether a document of the version may have a label there
abbrev pub allows : Version → LabelPlace → Bool
allows One (Rows start end) = true
allows One (Bytes start end) = false
allows Two place = true

abbrev pub allows_labels : Version → GivenReport → Bool
allows_labels version it = list_all (λ label. allows version label.place) it.labels

-- no version where each label is by rows and columns, and else the second
abbrev pub version_value : List GivenReport → Option Data
version_value reports = if list_all (allows_labels One) reports then None else Some (whole_number 2)

unfoldable pub document_value : List NamedText → List GivenReport → Data
document_value files reports =
    object (put_some (codes "version") (version_value reports)
    (put (codes "reports") (array (items_of (map report_value reports)))
    (put (codes "files") (array (items_of (map file_value files))) no_members)))

-- ---- what can be said

-- a report that a document of these files can say: its file is one of them, no part of its code is empty, and its labels
-- stand on it alone, none on its diagnostic
pub record FitsDocument (files : List NamedText) (it : GivenReport) : Type 0 where
  pub held : it.file < length files
  pub scope : it.diagnostic.code.scope ≢ Some []
  pub number : it.diagnostic.code.number ≢ Some []
  pub bare : it.diagnostic.labels ≡ []

-- the numbers of places are in the ranges of their types
abbrev pub IsCounted : ℕ → Type 0
IsCounted n = (1 ≤ n) × (n < 2 ^ 32)

abbrev pub IsLocation : SourceLocation → Type 0
IsLocation it = IsCounted it.row × IsCounted it.column

abbrev pub IsPlace : LabelPlace → Type 0
IsPlace (Rows start end) = IsLocation start × IsLocation end
IsPlace (Bytes start end) = (start < 2 ^ 32) × (end < 2 ^ 32)

abbrev pub HavePlaces : GivenReport → Type 0
HavePlaces it = All (λ label. IsPlace label.place) it.labels
