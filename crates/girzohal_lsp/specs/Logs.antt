-- What the bytes of a log are read as.
use Rattle.std.specs.Prelude.{◌≡◌, ◌⊎◌, ℕ, ◌++◌, List, slice_range, codes, decimal, string_bytes}
use Rattle.std.specs.declared.ops.Range.{Range}
use Rattle.input_forms.specs.Begun.{begins_as, behind_mark}
use Rattle.input_forms.specs.declared.begun.Begun.{Begun}
use Rattle.input_forms.specs.declared.begun.Begun.TheVariants as begun
use Rattle.sarif_log.specs.Answer.{Answer, answer_to, no_json, refused, log as log_is}
use Rattle.sarif_log.specs.Cut.{HasNoLog, IsLogIn}
use Rattle.sarif_log.specs.Log.{log_view}
use Rattle.girzohal_lsp.specs.declared.log.LogFile.{LogFile}
use Rattle.girzohal_lsp.specs.declared.log.LogFile.TheVariants.{Sarif, Lines, Fault}
use Rattle.girzohal_lsp.specs.declared.words.Form.{Form}
use Rattle.girzohal_lsp.specs.declared.words.Form.TheVariants as form

-- what stands from the first brace that opens a line to the last one that closes
pub record Stands (bytes : List ℕ) (P : Answer → Type 0) : Type 0 where
  pub range : Range ℕ
  pub there : IsLogIn bytes range
  pub is : P (answer_to (slice_range bytes range.start range.end))

-- it names a row and a column, no clause says which
pub record NamesPlace (why : List ℕ) : Type 0 where
  pub row : ℕ
  pub column : ℕ
  pub is : why ≡ codes "no JSON at " ++ (decimal row ++ (codes ":" ++ decimal column))

abbrev pub fault_text : List ℕ → List ℕ → List ℕ
fault_text path wanted = path ++ (codes ": wanted " ++ wanted)

-- why a text is answered with no log
abbrev pub IsNoLog : List ℕ → Answer → Type 0
IsNoLog why no_json = NamesPlace why
IsNoLog why (refused path wanted) = why ≡ fault_text path wanted
IsNoLog why (log_is log) = ⊥

-- the log that stands there; else why there is none: there are no such braces, or no log between them
abbrev pub IsSarif : List ℕ → LogFile → Type 0
IsSarif bytes (Sarif log) = Stands bytes (λ answer. answer ≡ log_is (log_view log))
IsSarif bytes (Lines text) = ⊥
IsSarif bytes (Fault why) = (HasNoLog bytes × (string_bytes why ≡ codes "no SARIF log")) ⊎ Stands bytes (IsNoLog (string_bytes why))

abbrev pub IsLines : List ℕ → LogFile → Type 0
IsLines bytes (Sarif log) = ⊥
IsLines bytes (Lines text) = text.now ≡ bytes
IsLines bytes (Fault why) = ⊥

-- a fault, of which this is said
abbrev pub IsFault : List ℕ → LogFile → Type 0
IsFault text (Sarif log) = ⊥
IsFault text (Lines lines) = ⊥
IsFault text (Fault why) = string_bytes why ≡ text

abbrev pub other_json : List ℕ
other_json = codes "JSON of no known form; SARIF logs and lines are read"

abbrev pub other_xml : List ℕ
other_xml = codes "XML; SARIF logs and lines are read"

-- what begins as an object is a SARIF log; other JSON and XML aren't read
abbrev pub IsBegun : Begun → List ℕ → LogFile → Type 0
IsBegun begun.Object text file = IsSarif text file
IsBegun begun.OtherJson text file = IsFault other_json file
IsBegun begun.Xml text file = IsFault other_xml file
IsBegun begun.Lines text file = IsLines text file

-- in the form that was asked for, behind one byte order mark
abbrev pub IsRead : Form → List ℕ → LogFile → Type 0
IsRead form.Lines bytes file = IsLines (behind_mark bytes) file
IsRead form.Sarif bytes file = IsSarif (behind_mark bytes) file
IsRead form.Auto bytes file = IsBegun (begins_as bytes) (behind_mark bytes) file
