-- What an input is: no JSON, a log with a fault, or a log.
use Rattle.std.specs.Prelude.{ℕ, List, [], ◌∷◌, ◌++◌, drop, nat_eq, if◌then◌else◌, Option, Some, None, codes, decimal, string_bytes}
use Rattle.std.specs.List.{starts_with}
use Rattle.std.specs.Str.{is_utf8}
use Rattle.json.specs.Json.{Json, document}
use Rattle.sarif_log.specs.declared.form.Kind.{Kind}
use Rattle.sarif_log.specs.declared.form.Kind.TheVariants.{Any, Text, Word, Whole, Texts, Object, Objects, Named}
use Rattle.sarif_log.specs.declared.form.Words.TheVariants as words
use Rattle.sarif_log.specs.declared.form.Shape.TheVariants as shape
use Rattle.sarif_log.specs.declared.top.LogError.{LogError}
use Rattle.sarif_log.specs.declared.top.LogError.TheVariants as errors
use Rattle.sarif_log.specs.Faults.{Step, key, index, Fault, fault_in}
use Rattle.sarif_log.specs.Log.{Log, log_of}

-- a path with one step more, as `runs[0].tool`
abbrev pub joined : List ℕ → Step → List ℕ
joined [] (key name) = name
joined (byte ∷ path) (key name) = (byte ∷ path) ++ (0x2E ∷ name)
joined path (index at) = path ++ (0x5B ∷ decimal at ++ 0x5D ∷ [])

-- the path of steps that go from the inside out
unfoldable pub path_of : List Step → List ℕ
path_of [] = []
path_of (step ∷ outer) = joined (path_of outer) step

-- what a kind is called
abbrev pub wanted_of : Kind → List ℕ
wanted_of Any = codes "any value"
wanted_of Text = codes "a text"
wanted_of (Word words.Version) = codes "2.1.0"
wanted_of (Word words.Level) = codes "none, note, warning or error"
wanted_of (Word words.ResultKind) = codes "notApplicable, pass, fail, review, open or informational"
wanted_of (Word words.ColumnKind) = codes "utf16CodeUnits or unicodeCodePoints"
wanted_of (Word words.BaselineState) = codes "new, unchanged, updated or absent"
wanted_of (Word words.Status) = codes "accepted, underReview or rejected"
wanted_of Whole = codes "a whole number"
wanted_of Texts = codes "a list of texts"
wanted_of (Object s) = codes "an object"
wanted_of (Objects s) = codes "a list of objects"
wanted_of (Named s) = codes "an object"

pub data Answer : Type 0 where
  no_json : Answer
  refused : List ℕ → List ℕ → Answer
  log : Log → Answer

-- one byte order mark is skipped
abbrev pub without_mark : List ℕ → List ℕ
without_mark bytes = if starts_with nat_eq bytes (0xEF ∷ 0xBB ∷ 0xBF ∷ []) then drop 3 bytes else bytes

abbrev pub json_in : List ℕ → Option Json
json_in bytes = if is_utf8 bytes then document bytes else None

abbrev pub unless_fault : Option Fault → Log → Answer
unless_fault None said = log said
unless_fault (Some fault) said = refused (path_of fault.steps) (wanted_of fault.wanted)

unfoldable pub said_by : Json → Answer
said_by value = unless_fault (fault_in (Object shape.Log) value) (log_of value)

abbrev pub said_in : Option Json → Answer
said_in None = no_json
said_in (Some value) = said_by value

unfoldable pub answer_to : List ℕ → Answer
answer_to bytes = said_in (json_in (without_mark bytes))

-- what an error says of the input: nothing, where memory was wanting
abbrev pub error_view : LogError → Option Answer
error_view (errors.NoJson line column) = Some no_json
error_view (errors.Fault path wanted) = Some (refused (string_bytes path) wanted.now)
error_view errors.OutOfMemory = None
