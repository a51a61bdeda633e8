-- Which input is a document, and what it says. The tables give for each key the kind of its value, and whether it must
-- be there; the records below them give what each part means, and what a part that is left out means.
use Rattle.std.specs.Prelude.{ℕ, ◌^◌, ◌-◌, List, [], ◌∷◌, ◌==◌, false, nat_lt, if◌then◌else◌, length, Option, None, option_map, option_and_then, unwrap_or, codes}
use Rattle.std.specs.Option.{option_or}
use Rattle.std.specs.Str.{is_utf8}
use Rattle.serde_json.specs.Data.{Data}
use Rattle.serde_json.specs.Read.{read}
use Rattle.source_location.specs.declared.SourceLocation.{SourceLocation}
use Rattle.codespan.specs.Texts.{NamedText}
use Rattle.oxc_protocol.specs.declared.protocol.Severity.TheVariants.{Error}
use Rattle.oxc_protocol.specs.Parts.{OxcParts}
use Rattle.render_files.specs.declared.places.LabelPlace.{LabelPlace}
use Rattle.render_files.specs.declared.places.LabelPlace.TheVariants.{Rows, Bytes}
use Rattle.render_files.specs.Given.{GivenLabel, GivenReport}
use Rattle.documents.specs.Kinds.{Key, must, may, only_if, object_of, under, array_of, text, some_text, source, truth, whole, severity, place, bytes_pair}
use Rattle.documents.specs.declared.document.Version.{Version}
use Rattle.documents.specs.declared.document.Version.TheVariants.{One, Two}

-- the source files and the reports on them
pub record Document : Type 0 where
  pub files : List NamedText
  pub reports : List GivenReport

-- a file
abbrev pub file_keys : List Key
file_keys = must (codes "name") text ∷ must (codes "source") source ∷ []

unfoldable pub file : Data → Option NamedText
file it =
    object_of file_keys (record {
      name = unwrap_or (under (codes "name") text it) [];
      text = unwrap_or (under (codes "source") source it) [];
    }) it

-- a label by rows and columns
abbrev pub row_keys : List Key
row_keys = must (codes "start") place ∷ must (codes "end") place ∷ may (codes "text") text ∷ may (codes "primary") truth ∷ []

-- a label by bytes
abbrev pub byte_keys : List Key
byte_keys = must (codes "bytes") bytes_pair ∷ may (codes "text") text ∷ may (codes "primary") truth ∷ []

abbrev pub first_place : SourceLocation
first_place = record { row = 1; column = 1 }

abbrev pub rows_in : Data → LabelPlace
rows_in it = Rows (unwrap_or (under (codes "start") place it) first_place) (unwrap_or (under (codes "end") place it) first_place)

abbrev pub bytes_in : Data → LabelPlace
bytes_in it = let pair = unwrap_or (under (codes "bytes") bytes_pair it) (0, 0) in Bytes pair.0 pair.1

abbrev pub label_at : LabelPlace → Data → GivenLabel
label_at place it =
    record {
      place = place;
      text = under (codes "text") text it;
      primary = unwrap_or (under (codes "primary") truth it) false;
    }

unfoldable pub label_by_rows : Data → Option GivenLabel
label_by_rows it = object_of row_keys (label_at (rows_in it) it) it

unfoldable pub label_by_bytes : Data → Option GivenLabel
label_by_bytes it = object_of byte_keys (label_at (bytes_in it) it) it

-- a label: in the first version by rows and columns, in the second by either
abbrev pub label : Version → Data → Option GivenLabel
label One it = label_by_rows it
label Two it = option_or (label_by_rows it) (label_by_bytes it)

-- where a report is
abbrev pub file_number : Data → Option ℕ
file_number value = whole 0 (2 ^ 32 - 2) value

abbrev pub labels : Version → Data → Option (List GivenLabel)
labels version value = array_of (label version) value

-- what a report says
abbrev pub said_keys : List Key
said_keys =
    must (codes "message") text ∷ may (codes "severity") severity
    ∷ may (codes "scope") some_text ∷ may (codes "number") some_text
    ∷ may (codes "help") text ∷ may (codes "note") text ∷ may (codes "url") text ∷ []

abbrev pub said_in : Data → OxcParts
said_in it =
    record {
      message = unwrap_or (under (codes "message") text it) [];
      severity = unwrap_or (under (codes "severity") severity it) Error;
      code = record { scope = under (codes "scope") some_text it; number = under (codes "number") some_text it };
      help = under (codes "help") text it;
      note = under (codes "note") text it;
      url = under (codes "url") text it;
      labels = [];
    }

-- a report: on which file, where, and what it says
abbrev pub report_keys : Version → List Key
report_keys version = must (codes "file") file_number ∷ may (codes "labels") (labels version) ∷ said_keys

unfoldable pub report : Version → Data → Option GivenReport
report version it =
    object_of (report_keys version) (record {
      file = unwrap_or (under (codes "file") file_number it) 0;
      diagnostic = said_in it;
      labels = unwrap_or (under (codes "labels") (labels version) it) [];
    }) it

-- a document: its version, its files, fewer than 2 ^ 32, and its reports
abbrev pub version_in : Data → Option Version
version_in value = option_map (λ n. if n == 1 then One else Two) (whole 1 2 value)

abbrev pub files_in : Data → Option (List NamedText)
files_in value = option_and_then (only_if (λ list. nat_lt (length list) (2 ^ 32))) (array_of file value)

abbrev pub reports_in : Version → Data → Option (List GivenReport)
reports_in version value = array_of (report version) value

abbrev pub document_keys : Version → List Key
document_keys version = may (codes "version") version_in ∷ must (codes "files") files_in ∷ must (codes "reports") (reports_in version) ∷ []

abbrev pub version_of : Data → Version
version_of it = unwrap_or (under (codes "version") version_in it) One

unfoldable pub form_of : Data → Option Document
form_of it =
    let version = version_of it in
    object_of (document_keys version) (record {
      files = unwrap_or (under (codes "files") files_in it) [];
      reports = unwrap_or (under (codes "reports") (reports_in version) it) [];
    }) it

-- the value that the whole input is as JSON
abbrev pub json_in : List ℕ → Option Data
json_in bytes = if is_utf8 bytes then read bytes else None

-- the document that an input is
unfoldable pub document_of : List ℕ → Option Document
document_of bytes = option_and_then form_of (json_in bytes)
