-- What is found in an input.
use Rattle.std.specs.Prelude.{◌≡◌, ℕ, List, [], Bool, true, false}
use Rattle.std.specs.declared.ops.Range.{Range}
use Rattle.found_reports.specs.Found.{Found}
use Rattle.found_reports.specs.Held.{Held}
use Rattle.found_reports.specs.Kept.{FoundParts}
use Rattle.found_reports.specs.Listed.{held_in}
use Rattle.found_reports.specs.declared.sources.Source.{Source}
use Rattle.tool_lines.specs.Lines.{PieceParts}
use Rattle.line_reports.specs.Pieces.{ReadParts}
use Rattle.line_reports.specs.Reports.{reports_in}
use Rattle.drawn_lines.specs.Text.{lines_of}
use Rattle.drawn_lines.specs.Lines.{columns_of, kept_text}
use Rattle.girzohal_run.specs.Lines.{AreNamed, NamesLines, ReadsNamed}
use Rattle.input_forms.specs.Begun.{begins_as}
use Rattle.input_forms.specs.Object.{IsJsonPart}
use Rattle.input_forms.specs.declared.begun.Begun.{Begun}
use Rattle.input_forms.specs.declared.begun.Begun.TheVariants.{Object, OtherJson, Xml, Lines}
use Rattle.json_inputs.specs.Marks.{is_report_object}
use Rattle.girzohal_options.specs.declared.Asked.{Asked}
use Rattle.girzohal_options.specs.declared.InputForm.{InputForm}
use Rattle.girzohal_options.specs.declared.InputForm.TheVariants as form
use Rattle.girzohal_run.specs.Told.{Told}
use Rattle.girzohal_run.specs.Logs.{log_columns}
use Rattle.girzohal_run.specs.Made.{object_form}
use Rattle.girzohal_run.specs.Reads.{ReadsPart, around, part_of}
use Rattle.girzohal_run.specs.Values.{FindsValues}
use Rattle.girzohal_run.specs.Xml.{FindsXml}
use Rattle.girzohal_run.specs.declared.object.ObjectForm.{ObjectForm}
use Rattle.girzohal_run.specs.declared.object.ObjectForm.TheVariants.{Keyed, AsDocument, AsLog}

-- the reports that these pieces of lines mean with what was given, where their bodies are read; and the lines that are no findings
pub record FindsPieces (asked : Asked) (given : List ℕ → Held) (lines : List (List ℕ)) (pieces : List PieceParts) (reads : List ReadParts) (found : List Found) (aside : List ℕ) : Type 0 where
  pub reports : found ≡ reports_in (columns_of asked) given lines reads
  pub kept : aside ≡ kept_text asked lines pieces

-- those of pieces of lines, for whose names more sources of a store were added
pub record FindsNamed (told : Told) (asked : Asked) (before : List Source) (lines : List (List ℕ)) (pieces : List PieceParts) (found : List Found) (aside : List ℕ) : Type 0 where
  pub now : List Source
  pub reads : List ReadParts
  pub named : ReadsNamed told before now lines pieces reads
  pub finds : FindsPieces asked (held_in now) lines pieces reads found aside

-- those of the pieces of a text's lines, with what was given of the names in them; a finding has the name that it has from the root
pub record FindsLines (told : Told) (asked : Asked) (bytes : List ℕ) (found : List Found) (aside : List ℕ) : Type 0 where
  pub given : List ℕ → Held
  pub named : List PieceParts
  pub reads : List ReadParts
  pub names : NamesLines told asked bytes given named reads
  pub finds : FindsPieces asked given (lines_of bytes) named reads found aside

-- the same, where places are told by one store and texts by another
pub record FindsOld (places told : Told) (asked : Asked) (bytes : List ℕ) (found : List Found) (aside : List ℕ) : Type 0 where
  pub given : List ℕ → Held
  pub named : List PieceParts
  pub are : AreNamed places asked bytes given named
  pub finds : FindsNamed told asked [] (lines_of bytes) named found aside

-- the reports of the JSON object among other lines, and what stands around it
pub record FindsObject (how : ObjectForm) (told : Told) (asked : Asked) (bytes : List ℕ) (found : List Found) (aside : List ℕ) : Type 0 where
  pub range : Range ℕ
  pub there : IsJsonPart bytes range
  pub parts : FoundParts
  pub reads : ReadsPart how told (log_columns asked.columns) (part_of bytes range) parts
  pub reports : found ≡ parts.found
  pub aside_is : aside ≡ around bytes range

-- an object by its marks: a log or a document, or a value as others
abbrev pub FindsMarked : Bool → Told → Asked → List ℕ → List Found → List ℕ → Type 0
FindsMarked true told asked bytes found aside = FindsObject (object_form asked.columns) told asked bytes found aside
FindsMarked false told asked bytes found aside = FindsValues told asked bytes found aside

pub record FindsBraced (told : Told) (asked : Asked) (bytes : List ℕ) (found : List Found) (aside : List ℕ) : Type 0 where
  pub range : Range ℕ
  pub there : IsJsonPart bytes range
  pub finds : FindsMarked (is_report_object (part_of bytes range)) told asked bytes found aside

abbrev pub FindsBegun : Begun → Told → Asked → List ℕ → List Found → List ℕ → Type 0
FindsBegun Object told asked bytes found aside = FindsBraced told asked bytes found aside
FindsBegun OtherJson told asked bytes found aside = FindsValues told asked bytes found aside
FindsBegun Xml told asked bytes found aside = FindsXml told asked bytes found aside
FindsBegun Lines told asked bytes found aside = FindsLines told asked bytes found aside

-- the values that a tool writes, as XML or as JSON
abbrev pub FindsOther : Begun → Told → Asked → List ℕ → List Found → List ℕ → Type 0
FindsOther Object told asked bytes found aside = FindsValues told asked bytes found aside
FindsOther OtherJson told asked bytes found aside = FindsValues told asked bytes found aside
FindsOther Xml told asked bytes found aside = FindsXml told asked bytes found aside
FindsOther Lines told asked bytes found aside = FindsValues told asked bytes found aside

abbrev pub FindsAs : InputForm → Told → Asked → List ℕ → List Found → List ℕ → Type 0
FindsAs form.Auto told asked bytes found aside = FindsBegun (begins_as bytes) told asked bytes found aside
FindsAs form.Document told asked bytes found aside = FindsObject AsDocument told asked bytes found aside
FindsAs form.Sarif told asked bytes found aside = FindsObject AsLog told asked bytes found aside
FindsAs form.Json told asked bytes found aside = FindsOther (begins_as bytes) told asked bytes found aside
FindsAs form.Lines told asked bytes found aside = FindsLines told asked bytes found aside

-- what is found in an input in the form that was asked for: the reports that it means, as a run finds them that reads it alone, and what is none of them
abbrev pub IsFound : Told → Asked → List ℕ → List Found → List ℕ → Type 0
IsFound told asked bytes found aside = FindsAs asked.from told asked bytes found aside
