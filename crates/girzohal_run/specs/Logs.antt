-- The reports that a SARIF log means.
use Rattle.std.specs.Prelude.{◌≡◌, ℕ, ◌++◌, List, Option, Some, None, codes, decimal}
use Rattle.found_reports.specs.Files.{files_of}
use Rattle.found_reports.specs.Kept.{FoundParts}
use Rattle.found_reports.specs.Held.{Held}
use Rattle.source_store.specs.Given.{IsGiven}
use Rattle.source_store.specs.declared.named.Spelling.TheVariants.{Uri}
use Rattle.sarif_log.specs.declared.log.ColumnKind.{ColumnKind}
use Rattle.sarif_log.specs.declared.log.ColumnKind.TheVariants as kind
use Rattle.sarif_log.specs.Log.{Log}
use Rattle.sarif_log.specs.Answer.{Answer, answer_to, no_json, refused, log as log_is}
use Rattle.sarif.specs.Asked.{names_in}
use Rattle.sarif.specs.Meaning.{reports_in}
use Rattle.line_shapes.specs.declared.tables.Unit.{Unit as ColumnUnit}
use Rattle.line_shapes.specs.declared.tables.Unit.TheVariants.{Bytes, Characters, Utf16, Cells}
use Rattle.harmless.specs.declared.Kind.TheVariants.{Name}
use Rattle.harmless.specs.Harmless.{harmless}
use Rattle.girzohal_run.specs.Told.{Told}

-- columns of a log count what was asked for, where logs can count it
abbrev pub log_columns : Option ColumnUnit → Option ColumnKind
log_columns None = None
log_columns (Some Bytes) = None
log_columns (Some Characters) = Some kind.Characters
log_columns (Some Utf16) = Some kind.Utf16
log_columns (Some Cells) = None

-- the log that a text is, with the reports that it means with what was given of the names for which it asks, among the files that they are on
pub record ReadsLog (told : Told) (columns : Option ColumnKind) (part : List ℕ) (parts : FoundParts) : Type 0 where
  pub log : Log
  pub is : answer_to part ≡ log_is log
  pub given : List ℕ → Held
  pub told_so : IsGiven told Uri (names_in log) given
  pub reports : parts.found ≡ reports_in given columns log
  pub files : parts.files ≡ files_of parts.found

-- the line that says what was wanted of a log, and where; a path holds the log's own keys, which can't drive a terminal
abbrev pub no_log_line : List ℕ → List ℕ → List ℕ
no_log_line path wanted = codes "girzohal: " ++ harmless Name path ++ codes ": wanted " ++ wanted ++ codes "\n"

-- the line that says where reading as JSON stopped
abbrev pub no_json_line : ℕ → ℕ → List ℕ
no_json_line row column = codes "girzohal: line " ++ (decimal row ++ (codes ", column " ++ (decimal column ++ codes ": input is no JSON\n")))

-- it names a row and a column, no clause says which
pub record NamesPlace (line : List ℕ) : Type 0 where
  pub row : ℕ
  pub column : ℕ
  pub is : line ≡ no_json_line row column

-- a text is answered with a fault in place of a log; the line says what was wanted and where, or that it is no JSON
abbrev pub IsFault : Answer → List ℕ → Type 0
IsFault no_json line = NamesPlace line
IsFault (refused path wanted) line = line ≡ no_log_line path wanted
IsFault (log_is log) line = ⊥

abbrev pub IsNoLog : List ℕ → List ℕ → Type 0
IsNoLog part line = IsFault (answer_to part) line
