-- The JSON value of files and reports on them as a SARIF log of one run.
use Rattle.std.specs.Prelude.{ℕ, ◌==◌, Bool, false, List, [], ◌∷◌, map, codes, if◌then◌else◌, Option, Some, None, option_map, option_and_then, unwrap_or, suc, slice_get, slice_index_or, length, drop, ◌<◌, ◌+◌}
use Rattle.std.specs.List.{All, remove}
use Rattle.std.specs.Str.{IsCharBoundary}
use Rattle.serde_json.specs.Data.{Data, string, array, object, item, no_items, Members, member, no_members, put}
use Rattle.serde_json.specs.View.{items_of}
use Rattle.documents.specs.Written.{put_some, text_value, whole_number}
use Rattle.source_location.specs.declared.SourceLocation.{SourceLocation}
use Rattle.source_location.specs.Locations.{location_of}
use Rattle.source_location.specs.Index.{IndexView, index_of}
use Rattle.codespan.specs.Texts.{NamedText, name_of, text_of}
use Rattle.oxc_span.specs.Label.{Label, label_end}
use Rattle.oxc_protocol.specs.Parts.{OxcParts}
use Rattle.oxc_protocol.specs.declared.protocol.Severity.{Severity}
use Rattle.oxc_protocol.specs.declared.protocol.Severity.TheVariants.{Advice, Warning, Error}
use Rattle.found_reports.specs.Fixes.{ChangeParts}
use Rattle.found_reports.specs.declared.places.GivenPlace.{GivenPlace}
use Rattle.render_files.specs.Given.{GivenReport}
use Rattle.render_files.specs.Shown.{placed_labels}
use Rattle.sarif_writing.specs.Rules.{place_in, rule_of, rules_of}

-- ---- where labels stand

-- rows and columns from 1; a column counts characters
unfoldable pub region_value : SourceLocation → SourceLocation → Data
region_value start end =
    object (member (codes "endColumn") (whole_number end.column)
    (member (codes "endLine") (whole_number end.row)
    (member (codes "startColumn") (whole_number start.column)
    (member (codes "startLine") (whole_number start.row) no_members))))

-- a file: its place among the artifacts, and its name
unfoldable pub reference_value : List NamedText → ℕ → Data
reference_value files file =
    object (member (codes "index") (whole_number file) (member (codes "uri") (string (name_of files file)) no_members))

-- a file as a whole
unfoldable pub file_location : List NamedText → ℕ → Data
file_location files file =
    object (member (codes "physicalLocation") (object (member (codes "artifactLocation") (reference_value files file) no_members)) no_members)

unfoldable pub message_value : List ℕ → Data
message_value text = object (member (codes "text") (string text) no_members)

-- a region of a file
unfoldable pub region_place : List NamedText → ℕ → Label → Data
region_place files file it =
    let text = text_of files file in
    object (member (codes "artifactLocation") (reference_value files file)
    (member (codes "region") (region_value (location_of text it.offset) (location_of text (label_end it))) no_members))

-- a label: where it stands in its file, and what it says
unfoldable pub label_location : List NamedText → ℕ → Label → Data
label_location files file it =
    object (put_some (codes "message") (option_map message_value it.text)
    (put (codes "physicalLocation") (region_place files file it) no_members))

-- the place of the first primary label
unfoldable pub primary_place : List Label → Option ℕ
primary_place [] = None
primary_place (it ∷ rest) = if it.primary then Some 0 else option_map suc (primary_place rest)

-- the place of the label that a report is about: the first primary one, else the first
abbrev pub head_place : List Label → ℕ
head_place labels = unwrap_or (primary_place labels) 0

-- an array of values, where there are any
abbrev pub some_array : List Data → Option Data
some_array [] = None
some_array (first ∷ rest) = Some (array (items_of (first ∷ rest)))

-- the label at the head is the location, and a report without labels has the bare one; the other labels are related locations
unfoldable pub place_members : List NamedText → ℕ → Data → List Label → Members → Members
place_members files file bare labels members =
    let places = map (label_location files file) labels in
    let head = unwrap_or (slice_get places (head_place labels)) bare in
    put_some (codes "relatedLocations") (some_array (remove places (head_place labels)))
    (put (codes "locations") (array (item head no_items)) members)

-- ---- where tools put reports that have no label

-- 0 says nothing where a row or a column is meant
abbrev pub counted : Option ℕ → Option ℕ
counted None = None
counted (Some n) = if n == 0 then None else Some n

-- from a row on, as far as the tool gave more
unfoldable pub given_region : ℕ → GivenPlace → Data
given_region row it =
    object (put_some (codes "endColumn") (option_map whole_number (counted it.end_column))
    (put_some (codes "endLine") (option_map whole_number (counted it.end_line))
    (put_some (codes "startColumn") (option_map whole_number (counted it.column))
    (put (codes "startLine") (whole_number row) no_members))))

-- a place without a row is no region
abbrev pub region_given : Option GivenPlace → Option Data
region_given None = None
region_given (Some it) = option_map (λ row. given_region row it) (counted it.line)

-- a file, and where in it the tool puts the report
unfoldable pub bare_location : List NamedText → ℕ → Option GivenPlace → Data
bare_location files file place =
    object (member (codes "physicalLocation") (object (put_some (codes "region") (region_given place)
    (put (codes "artifactLocation") (reference_value files file) no_members))) no_members)

-- ---- the edits that tools propose

-- a number of whole rows of a file from a first one on, each with its break: up to the start of the next row. No rows are
-- the place before the first one
unfoldable pub rows_region : ℕ → ℕ → Data
rows_region first count =
    object (member (codes "endColumn") (whole_number 1)
    (member (codes "endLine") (whole_number (first + count))
    (member (codes "startColumn") (whole_number 1)
    (member (codes "startLine") (whole_number first) no_members))))

-- rows, and the text that replaces them
unfoldable pub change_value : ChangeParts → Data
change_value it =
    object (member (codes "deletedRegion") (rows_region it.first it.count) (member (codes "insertedContent") (message_value it.text) no_members))

-- the changes of a file's rows that are one edit
unfoldable pub fix_value : List NamedText → ℕ → List ChangeParts → Data
fix_value files file changes =
    object (member (codes "artifactChanges") (array (item (object (member (codes "artifactLocation") (reference_value files file)
    (member (codes "replacements") (array (items_of (map change_value changes))) no_members))) no_items)) no_members)

-- ---- results

abbrev pub level_text : Severity → List ℕ
level_text Advice = codes "note"
level_text Warning = codes "warning"
level_text Error = codes "error"

-- the place of a report's rule
abbrev pub rule_place : List Data → OxcParts → Option ℕ
rule_place rules it = option_and_then (place_in rules) (rule_of it)

-- what is said: level, message, and the rule by its id and its place
unfoldable pub said_members : List Data → OxcParts → Members
said_members rules it =
    put_some (codes "ruleIndex") (option_map whole_number (rule_place rules it))
    (put_some (codes "ruleId") (text_value it.code.number)
    (put (codes "message") (message_value it.message)
    (put (codes "level") (string (level_text it.severity)) no_members)))

unfoldable pub result_value : List NamedText → List Data → GivenReport → Data
result_value files rules it =
    object (place_members files it.file (file_location files it.file) (placed_labels files it) (said_members rules it.diagnostic))

-- the same of a report that its tool puts at a place, which counts where it has no label; and the edits that its tool proposes
unfoldable pub placed_value : List NamedText → List Data → Option GivenPlace → List (List ChangeParts) → GivenReport → Data
placed_value files rules place fixes it =
    object (put_some (codes "fixes") (some_array (map (fix_value files it.file) fixes))
    (place_members files it.file (bare_location files it.file place) (placed_labels files it) (said_members rules it.diagnostic)))

-- ---- the log

-- a file with its text
unfoldable pub artifact_value : NamedText → Data
artifact_value it =
    object (member (codes "contents") (object (member (codes "text") (string it.text) no_members))
    (member (codes "location") (object (member (codes "uri") (string it.name) no_members)) no_members))

-- a file whose text isn't known
unfoldable pub unread_value : NamedText → Data
unread_value it = object (member (codes "location") (object (member (codes "uri") (string it.name) no_members)) no_members)

abbrev pub file_value : Bool → NamedText → Data
file_value unread it = if unread then unread_value it else artifact_value it

-- the breaks of rows: where CRLF stands, CR alone doesn't count
unfoldable pub breaks_value : Data
breaks_value = array (item (string (codes "\r\n")) (item (string (codes "\n")) (item (string (codes "\r")) no_items)))

unfoldable pub tool_value : List ℕ → Data → Data
tool_value tool rules =
    object (member (codes "driver") (object (member (codes "name") (string tool) (member (codes "rules") rules no_members))) no_members)

unfoldable pub run_of : Data → Data → Data → Data
run_of artifacts results tool =
    object (member (codes "artifacts") artifacts
    (member (codes "columnKind") (string (codes "unicodeCodePoints"))
    (member (codes "newlineSequences") breaks_value (member (codes "results") results (member (codes "tool") tool no_members)))))

unfoldable pub run_value : List ℕ → List NamedText → List GivenReport → Data
run_value tool files reports =
    let rules = rules_of reports in
    run_of (array (items_of (map artifact_value files))) (array (items_of (map (result_value files rules) reports)))
    (tool_value tool (array (items_of rules)))

-- what is made of each of a list and of that which stands beside it in another, or of `other` where that one has ended
abbrev pub map_beside : {A B C : Type 0} → (B → A → C) → B → List B → List A → List C
map_beside f other besides [] = []
map_beside f other [] (it ∷ rest) = f other it ∷ map_beside f other [] rest
map_beside f other (beside ∷ besides) (it ∷ rest) = f beside it ∷ map_beside f other besides rest

-- the same of each of a list and of what stands beside it in two others
abbrev pub map_between : {A B C D : Type 0} → (B → C → A → D) → B → C → List B → List C → List A → List D
map_between f other last besides more [] = []
map_between f other last besides more (it ∷ rest) =
    f (slice_index_or besides 0 other) (slice_index_or more 0 last) it ∷ map_between f other last (drop 1 besides) (drop 1 more) rest

-- the same with the files that weren't read, and with the places and the edits of the reports; past the ends of these lists
-- a file was read, and a report has no place and no edit
unfoldable pub run_with : List ℕ → List NamedText → List Bool → List GivenReport → List (Option GivenPlace) → List (List (List ChangeParts)) → Data
run_with tool files unread reports places fixes =
    let rules = rules_of reports in
    run_of (array (items_of (map_beside file_value false unread files)))
    (array (items_of (map_between (placed_value files rules) None [] places fixes reports))) (tool_value tool (array (items_of rules)))

-- a log of one run
unfoldable pub log_of : Data → Data
log_of run =
    object (member (codes "$schema") (string (codes "https://json.schemastore.org/sarif-2.1.0.json"))
    (member (codes "runs") (array (item run no_items)) (member (codes "version") (string (codes "2.1.0")) no_members)))

abbrev pub log_value : List ℕ → List NamedText → List GivenReport → Data
log_value tool files reports = log_of (run_value tool files reports)

abbrev pub log_with : List ℕ → List NamedText → List Bool → List GivenReport → List (Option GivenPlace) → List (List (List ChangeParts)) → Data
log_with tool files unread reports places fixes = log_of (run_with tool files unread reports places fixes)

-- ---- what is known of reports that aren't refused

-- both ends of a label stand between characters
pub record Stands (text : List ℕ) (label : Label) : Type 0 where
  pub start : IsCharBoundary text label.offset
  pub end : IsCharBoundary text (label_end label)

-- there is the file, and its labels stand in its text
pub record StandsInFile (files : List NamedText) (it : GivenReport) : Type 0 where
  pub held : it.file < length files
  pub labels : All (Stands (text_of files it.file)) (placed_labels files it)

abbrev pub index_in : NamedText → IndexView
index_in file = index_of file.text
