-- The document that `generate` makes.
use Rattle.std.specs.Prelude.{ℕ, ◌%◌, ◌==◌, if◌then◌else◌, List, [], ◌∷◌, ◌++◌, map, codes, decimal, Some, false}
use Rattle.std.specs.List.{flat_map, range_with_len}
use Rattle.serde_json.specs.Data.{Data, number, unsigned, string, array, object, no_items, item, no_members, member}
use Rattle.serde_json.specs.View.{items_of}
use Rattle.serde_json.specs.Written.{compact_text}
use Rattle.oxc_protocol.specs.declared.protocol.Severity.TheVariants.{Error}
use Rattle.oxc_protocol.specs.Parts.{bare_diagnostic}
use Rattle.render_files.specs.declared.places.LabelPlace.TheVariants.{Rows}
use Rattle.render_files.specs.Given.{GivenReport}
use Rattle.documents.specs.Document.{Document}

-- what a row begins with: `r`, or, in each fourth, a tab and `日`
unfoldable pub front_of : ℕ → List ℕ
front_of n = if n % 4 == 0 then 0x09 ∷ 0xE6 ∷ 0x97 ∷ 0xA5 ∷ [] else codes "r"

-- a row with its number and its LF
unfoldable pub row_of : ℕ → List ℕ
row_of n = front_of n ++ decimal n ++ 0x0A ∷ []

-- the rows from 1 on
unfoldable pub source_of : ℕ → List ℕ
source_of count = flat_map row_of (range_with_len 1 count)

-- ---- the document as JSON

abbrev pub whole_value : ℕ → Data
whole_value n = number (unsigned n)

abbrev pub place_value : ℕ → ℕ → Data
place_value row column = array (item (whole_value row) (item (whole_value column) no_items))

-- a label from the row's first column to its second
abbrev pub label_value : ℕ → Data
label_value n =
    object (member (codes "end") (place_value n 2)
    (member (codes "start") (place_value n 1)
    (member (codes "text") (string (codes "t")) no_members)))

-- a report on the row
unfoldable pub report_value : ℕ → Data
report_value n =
    object (member (codes "file") (whole_value 0)
    (member (codes "labels") (array (item (label_value n) no_items))
    (member (codes "message") (string (codes "m" ++ decimal n)) no_members)))

unfoldable pub reports_value : ℕ → List Data
reports_value count = map report_value (range_with_len 1 count)

unfoldable pub file_value : ℕ → Data
file_value count = object (member (codes "name") (string (codes "gen")) (member (codes "source") (string (source_of count)) no_members))

unfoldable pub generated_value : ℕ → Data
generated_value count =
    object (member (codes "files") (array (item (file_value count) no_items))
    (member (codes "reports") (array (items_of (reports_value count))) no_members))

-- its bytes: the text without spaces that is written for that value
unfoldable pub generated : ℕ → List ℕ
generated count = compact_text (generated_value count)

-- ---- the document that it is

abbrev pub report_made : ℕ → GivenReport
report_made n =
    record {
      file = 0;
      diagnostic = bare_diagnostic Error (codes "m" ++ decimal n);
      labels = record { place = Rows (record { row = n; column = 1 }) (record { row = n; column = 2 }); text = Some (codes "t"); primary = false } ∷ [];
    }

unfoldable pub document_made : ℕ → Document
document_made count = record { files = record { name = codes "gen"; text = source_of count } ∷ []; reports = map report_made (range_with_len 1 count) }
