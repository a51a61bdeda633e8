-- The log that files and reports on them are, as `sarif_log` reads it.
use Rattle.std.specs.Prelude.{ℕ, ◌+◌, ◌&&◌, Bool, true, false, List, [], ◌∷◌, ◌++◌, map, if◌then◌else◌, Option, Some, None, is_none, is_some, option_and_then, unwrap_or, slice_get}
use Rattle.std.specs.List.{remove}
use Rattle.std.specs.Str.{IsUtf8, bytes_eq}
use Rattle.source_location.specs.declared.SourceLocation.{SourceLocation}
use Rattle.source_location.specs.Locations.{location_of}
use Rattle.codespan.specs.Texts.{Fits, NamedText, name_of, text_of}
use Rattle.oxc_span.specs.Label.{Label, label_end}
use Rattle.oxc_protocol.specs.Parts.{OxcParts}
use Rattle.oxc_protocol.specs.declared.protocol.Severity.{Severity}
use Rattle.oxc_protocol.specs.declared.protocol.Severity.TheVariants.{Advice, Warning, Error}
use Rattle.sarif_log.specs.declared.log.ColumnKind.TheVariants.{Characters}
use Rattle.sarif_log.specs.declared.log.Level.{Level}
use Rattle.sarif_log.specs.declared.log.Level.TheVariants as levels
use Rattle.sarif_log.specs.declared.log.Region.{Region}
use Rattle.sarif_log.specs.Log.{Artifact, ArtifactLocation, Location, Log, LogResult, Message, Rule, RuleRef, Run}
use Rattle.render_files.specs.Given.{GivenReport}
use Rattle.render_files.specs.Shown.{placed_labels}
use Rattle.sarif_writing.specs.Written.{head_place}

-- ---- rules

-- the rule of a number and a URL: without a number its id is empty
abbrev pub rule_said : Option (List ℕ) → Option (List ℕ) → Rule
rule_said number url = record { id = Some (unwrap_or number []); help_uri = url; level = None; messages = [] }

-- the rule of a report that has a number or a URL
unfoldable pub rule_meant : OxcParts → Option Rule
rule_meant it = if is_none it.code.number && is_none it.url then None else Some (rule_said it.code.number it.url)

abbrev pub is_same_text : Option (List ℕ) → Option (List ℕ) → Bool
is_same_text None None = true
is_same_text None (Some other) = false
is_same_text (Some text) None = false
is_same_text (Some text) (Some other) = bytes_eq text other

-- two rules are one where their ids and their URLs are
abbrev pub is_rule : Rule → Rule → Bool
is_rule it other = bytes_eq (unwrap_or it.id []) (unwrap_or other.id []) && is_same_text it.help_uri other.help_uri

-- the place of a rule, from `at` on
unfoldable pub rule_from : ℕ → List Rule → Rule → Option ℕ
rule_from at [] rule = None
rule_from at (it ∷ rest) rule = if is_rule it rule then Some at else rule_from (at + 1) rest rule

-- these rules and one more, unless it is there
abbrev pub with_rule : List Rule → Option Rule → List Rule
with_rule rules None = rules
with_rule rules (Some rule) = if is_some (rule_from 0 rules rule) then rules else rules ++ rule ∷ []

unfoldable pub with_rules : List Rule → List GivenReport → List Rule
with_rules rules [] = rules
with_rules rules (it ∷ rest) = with_rules (with_rule rules (rule_meant it.diagnostic)) rest

-- the rules of reports, each once, in the order in which they come
abbrev pub rules_meant : List GivenReport → List Rule
rules_meant reports = with_rules [] reports

-- ---- where labels stand

abbrev pub no_message : Message
no_message = record { text = None; id = None; arguments = None }

abbrev pub text_message : List ℕ → Message
text_message text = record { text = Some text; id = None; arguments = None }

abbrev pub message_meant : Option (List ℕ) → Message
message_meant None = no_message
message_meant (Some text) = text_message text

-- a file: its name, and its place among the artifacts
abbrev pub reference_meant : List NamedText → ℕ → ArtifactLocation
reference_meant files file = record { uri = Some (name_of files file); base = None; index = Some file }

-- rows and columns from 1
abbrev pub region_meant : SourceLocation → SourceLocation → Region
region_meant start end =
    record {
      start_line = Some start.row;
      start_column = Some start.column;
      end_line = Some end.row;
      end_column = Some end.column;
      char_offset = None;
      char_length = None;
      byte_offset = None;
      byte_length = None;
    }

-- a label: where it stands in its file, and what it says
unfoldable pub label_meant : List NamedText → ℕ → Label → Location
label_meant files file it =
    record {
      artifact = reference_meant files file;
      region = Some (region_meant (location_of (text_of files file) it.offset) (location_of (text_of files file) (label_end it)));
      message = message_meant it.text;
    }

-- a file as a whole
unfoldable pub file_meant : List NamedText → ℕ → Location
file_meant files file = record { artifact = reference_meant files file; region = None; message = no_message }

-- ---- results

abbrev pub level_meant : Severity → Level
level_meant Advice = levels.Note
level_meant Warning = levels.Warning
level_meant Error = levels.Error

abbrev pub no_rule_ref : RuleRef
no_rule_ref = record { id = None; index = None; extension = None }

-- level, rule and message, the location at the head, and the other ones
abbrev pub result_of : List Rule → OxcParts → Location → List Location → LogResult
result_of rules said head others =
    record {
      rule_id = said.code.number;
      rule_index = option_and_then (rule_from 0 rules) (rule_meant said);
      rule = no_rule_ref;
      level = Some (level_meant said.severity);
      kind = None;
      message = text_message said.message;
      locations = head ∷ [];
      related = others;
      suppressions = [];
      baseline = None;
      fixes = [];
    }

-- a report: the label at its head is the location, or its file where it has no label; the others are related
unfoldable pub result_meant : List NamedText → List Rule → GivenReport → LogResult
result_meant files rules it =
    let labels = placed_labels files it in
    let places = map (label_meant files it.file) labels in
    result_of rules it.diagnostic (unwrap_or (slice_get places (head_place labels)) (file_meant files it.file))
    (remove places (head_place labels))

-- ---- the log

-- a file with its text
abbrev pub artifact_meant : NamedText → Artifact
artifact_meant it = record { location = record { uri = Some it.name; base = None; index = None }; contents = Some it.text }

-- CRLF, LF and CR
abbrev pub breaks_meant : List (List ℕ)
breaks_meant = (13 ∷ 10 ∷ []) ∷ (10 ∷ []) ∷ (13 ∷ []) ∷ []

unfoldable pub run_meant : List ℕ → List NamedText → List GivenReport → Run
run_meant tool files reports =
    record {
      tool = record { driver = record { name = Some tool; rules = rules_meant reports; messages = [] }; extensions = [] };
      counting = record { newline_sequences = Some breaks_meant; columns = Some Characters };
      names = record { bases = []; artifacts = map artifact_meant files };
      invocations = [];
      results = map (result_meant files (rules_meant reports)) reports;
    }

-- the log of one run of the tool, with the texts of the files in it
unfoldable pub log_meant : List ℕ → List NamedText → List GivenReport → Log
log_meant tool files reports = record { runs = run_meant tool files reports ∷ [] }

-- ---- the texts of files

-- a file's text is UTF-8, and has places of 32 bits
pub record IsSource (it : NamedText) : Type 0 where
  pub short : Fits it.text
  pub utf8 : IsUtf8 it.text
