-- The JSON object among other lines.
use Rattle.std.specs.Prelude.{◌≡◌, ◌⊎◌, ℕ, List, length, codes, Bool, option_and_then}
use Rattle.std.specs.Option.{is_some}
use Rattle.std.specs.declared.ops.Range.{Range}
use Rattle.serde_json.specs.Find.{get}
use Rattle.documents.specs.Document.{json_in}
use Rattle.sarif_log.specs.Cut.{HasNoLog, IsLogIn}

-- the range from the first brace that opens a line to the last one that closes, or all of the bytes where there are no such braces
abbrev pub IsJsonPart : List ℕ → Range ℕ → Type 0
IsJsonPart bytes range = IsLogIn bytes range ⊎ (HasNoLog bytes × (range ≡ record { start = 0; end = length bytes }))

-- a text is JSON with the key `files`
unfoldable pub has_files : List ℕ → Bool
has_files text = is_some (option_and_then (get (codes "files")) (json_in text))
