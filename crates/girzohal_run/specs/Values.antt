-- What is made of JSON values among other lines.
use Rattle.std.specs.Prelude.{◌≡◌, ◌⊎◌, ℕ, List, [], ◌∷◌, ◌++◌, map, Bool, false, String, string_bytes, Option, None, option_map}
use Rattle.std.specs.List.{filter_map}
use Rattle.std.specs.declared.alloc.Global.{Global}
use Rattle.found_reports.specs.Found.{Found}
use Rattle.found_reports.specs.Held.{Held}
use Rattle.source_store.specs.Given.{IsGiven}
use Rattle.source_store.specs.declared.named.Spelling.TheVariants.{Path}
use Rattle.json.specs.Json.{Json}
use Rattle.json_forms.specs.declared.cut.Piece.{Piece}
use Rattle.json_forms.specs.declared.told.Forms.{Forms}
use Rattle.json_forms.specs.Cut.{IsCut}
use Rattle.json_forms.specs.Finding.{Finding}
use Rattle.json_inputs.specs.Forms.{AreForms, IsNoForms, own_text}
use Rattle.json_inputs.specs.Input.{IsRefused, Said, first_refused, said_in}
use Rattle.json_inputs.specs.Parts.{lines_beside, rows_from}
use Rattle.json_inputs.specs.Values.{AreValues, IsNoJson}
use Rattle.json_reports.specs.Marks.{file_of}
use Rattle.json_reports.specs.Reports.{report_of}
use Rattle.tool_lines.specs.Lines.{ArePieces, PieceParts}
use Rattle.tool_lines.specs.Paint.{unpainted}
use Rattle.line_reports.specs.Names.{changes, names_in as line_names}
use Rattle.line_reports.specs.Pieces.{ReadParts}
use Rattle.line_reports.specs.Reports.{reports_in}
use Rattle.input_forms.specs.Begun.{behind_mark}
use Rattle.girzohal_options.specs.declared.Asked.{Asked}
use Rattle.drawn_lines.specs.Text.{lines_in_text}
use Rattle.drawn_lines.specs.Lines.{columns_of, kept_text, shapes_of}
use Rattle.drawn_lines.specs.Coming.{Reads}
use Rattle.girzohal_run.specs.Joined.{FindsParts, WritesFound}
use Rattle.girzohal_run.specs.Told.{Told}

-- ---- the values, and the forms by which they are read

-- the values of bytes, with the user's own forms and the known ones
pub record HasValues (own : List (String Global)) (tool : Option (String Global)) (bytes : List ℕ) (pieces : List Piece) (values : List Json) (forms : Forms) : Type 0 where
  pub cut : IsCut bytes 0 pieces None
  pub are : AreValues bytes values
  pub forms_are : AreForms (own_text own) (option_map string_bytes tool) forms

-- what they say, and the lines beside them
pub record ReadsValues (own : List (String Global)) (tool : Option (String Global)) (bytes : List ℕ) (said : Said) (beside : List ℕ) : Type 0 where
  pub pieces : List Piece
  pub values : List Json
  pub forms : Forms
  pub has : HasValues own tool bytes pieces values forms
  pub none_refused : first_refused forms (rows_from bytes 0 1 pieces) values ≡ None
  pub said_is : said ≡ said_in forms (rows_from bytes 0 1 pieces) values
  pub beside_is : beside ≡ lines_beside bytes pieces

-- one of them isn't as its form wants it, or has none, as the line says
pub record RefusesValue (own : List (String Global)) (tool : Option (String Global)) (bytes line : List ℕ) : Type 0 where
  pub pieces : List Piece
  pub values : List Json
  pub forms : Forms
  pub has : HasValues own tool bytes pieces values forms
  pub refused : IsRefused forms (rows_from bytes 0 1 pieces) values line

-- ---- what is found in them

-- the names of findings and of the pieces of lines
abbrev pub names_in : List Finding → List (List ℕ) → List ReadParts → List (List ℕ)
names_in findings lines reads = changes None (filter_map file_of findings) ++ line_names lines reads

-- the lines of the text beside values
abbrev pub lines_of : List ℕ → List (List ℕ)
lines_of beside = lines_in_text (unpainted beside)

-- the reports of what values say and of these pieces of lines; the lines that are no findings, and what is told of the values
pub record FindsSaid (asked : Asked) (given : List ℕ → Held) (said : Said) (lines : List (List ℕ)) (pieces : List PieceParts) (reads : List ReadParts) (found : List Found) (aside : List ℕ) : Type 0 where
  pub reports : found ≡ map (report_of given) said.findings ++ reports_in (columns_of asked) given lines reads
  pub kept : aside ≡ kept_text asked lines pieces ++ said.told

-- the same with what was given of their names
pub record FindsBeside (told : Told) (asked : Asked) (said : Said) (beside : List ℕ) (found : List Found) (aside : List ℕ) : Type 0 where
  pub pieces : List PieceParts
  pub are : ArePieces (shapes_of asked) None (lines_of beside) pieces
  pub reads : List ReadParts
  pub reads_are : Reads (lines_of beside) pieces reads
  pub given : List ℕ → Held
  pub told_so : IsGiven told Path (names_in said.findings (lines_of beside) reads) given
  pub finds : FindsSaid asked given said (lines_of beside) pieces reads found aside

-- ---- all

-- what is found in values and in the lines beside them
pub record FindsValues (told : Told) (asked : Asked) (bytes : List ℕ) (found : List Found) (aside : List ℕ) : Type 0 where
  pub said : Said
  pub beside : List ℕ
  pub reads : ReadsValues asked.json_shapes.items asked.tool (behind_mark bytes) said beside
  pub finds : FindsBeside told asked said beside found aside

-- what is written of it
pub record MakesValues (told : Told) (asked : Asked) (bytes text aside : List ℕ) (reached : Bool) : Type 0 where
  pub it : FindsParts
  pub finds : FindsValues told asked bytes it.found it.aside
  pub writes : WritesFound asked false (it ∷ []) text aside reached

-- they are no JSON, the user's own forms are none, or a value is refused
abbrev pub IsNoValues : List (String Global) → Option (String Global) → List ℕ → List ℕ → Type 0
IsNoValues own tool bytes line = IsNoJson (behind_mark bytes) line ⊎ (IsNoForms line ⊎ RefusesValue own tool (behind_mark bytes) line)
