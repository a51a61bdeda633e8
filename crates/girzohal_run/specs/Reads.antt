-- The reports that a JSON object means.
use Rattle.std.specs.Prelude.{◌≡◌, ◌⊎◌, ℕ, List, ◌++◌, take, drop, slice_range, codes, decimal, Bool, true, false, Option, Some, None}
use Rattle.std.specs.declared.ops.Range.{Range}
use Rattle.render_files.specs.declared.places.ReportError.{ReportError}
use Rattle.render_files.specs.declared.places.ReportError.TheVariants.{UnknownFile, PositionOutside, LabelReversed, SinkFault, OutOfMemory}
use Rattle.render_files.specs.Refusal.{refusal_of}
use Rattle.documents.specs.Document.{Document, document_of}
use Rattle.found_reports.specs.Kept.{FoundParts}
use Rattle.shown_reports.specs.Given.{found_document}
use Rattle.line_shapes.specs.declared.tables.Unit.{Unit as ColumnUnit}
use Rattle.line_shapes.specs.declared.tables.Unit.TheVariants.{Bytes, Characters, Utf16, Cells}
use Rattle.sarif_log.specs.declared.log.ColumnKind.{ColumnKind}
use Rattle.input_forms.specs.Begun.{behind_mark}
use Rattle.input_forms.specs.Object.{has_files}
use Rattle.girzohal_run.specs.declared.object.ObjectForm.{ObjectForm}
use Rattle.girzohal_run.specs.declared.object.ObjectForm.TheVariants.{Keyed, AsDocument, AsLog}
use Rattle.girzohal_run.specs.Told.{Told}
use Rattle.girzohal_run.specs.Logs.{IsNoLog, ReadsLog}

-- ---- JSON

-- the document that a text is, with its files and the reports on them, of which none is refused
pub record ReadsDocument (part : List ℕ) (parts : FoundParts) : Type 0 where
  pub document : Document
  pub is : document_of part ≡ Some document
  pub accepted : refusal_of document.files document.reports ≡ None
  pub parts_are : parts ≡ found_document document

-- why a report is refused, as the error says it; a report and a label are named by their place, from 0
abbrev pub refusal_text : ReportError → List ℕ
refusal_text (UnknownFile report) = codes "report " ++ (decimal report ++ codes ": unknown file")
refusal_text (PositionOutside report label at_end) = codes "report " ++ (decimal report ++ (codes ": label " ++ (decimal label ++ codes ": no position")))
refusal_text (LabelReversed report label start end) =
    codes "report " ++ (decimal report ++ (codes ": label " ++ (decimal label ++ (codes ": end " ++ (decimal end ++ (codes " before start " ++ decimal start))))))
refusal_text SinkFault = codes "output failed"
refusal_text OutOfMemory = codes "out of memory"

abbrev pub refusal_line : ReportError → List ℕ
refusal_line why = codes "girzohal: " ++ refusal_text why ++ codes "\n"

-- a document of which a report is refused, as the line says
pub record IsRefused (part line : List ℕ) : Type 0 where
  pub document : Document
  pub is : document_of part ≡ Some document
  pub why : ReportError
  pub refusal : refusal_of document.files document.reports ≡ Some why
  pub line_is : line ≡ refusal_line why

-- what is said of an object that is no document: a log is none where columns are to count what a log's can't
abbrev pub no_document : Option ColumnUnit → List ℕ
no_document None = codes "input is no document"
no_document (Some Characters) = codes "input is no document"
no_document (Some Utf16) = codes "input is no document"
no_document (Some Bytes) = codes "input is no document; a log's columns are characters or utf16, see --columns"
no_document (Some Cells) = codes "input is no document; a log's columns are characters or utf16, see --columns"

abbrev pub no_document_line : Option ColumnUnit → List ℕ
no_document_line columns = codes "girzohal: " ++ no_document columns ++ codes "\n"

-- a text is no document, or one of which a report is refused, as the line says
abbrev pub IsNoDocument : Option ColumnUnit → List ℕ → List ℕ → Type 0
IsNoDocument columns part line = ((document_of part ≡ None) × (line ≡ no_document_line columns)) ⊎ IsRefused part line

-- a document where there is the key `files`, else a log
abbrev pub ReadsKeyed : Bool → Told → Option ColumnKind → List ℕ → FoundParts → Type 0
ReadsKeyed true told columns part parts = ReadsDocument part parts
ReadsKeyed false told columns part parts = ReadsLog told columns part parts

abbrev pub IsNoneKeyed : Bool → Option ColumnUnit → List ℕ → List ℕ → Type 0
IsNoneKeyed true columns part line = IsNoDocument columns part line
IsNoneKeyed false columns part line = IsNoLog part line

-- what a JSON object in a form means
abbrev pub ReadsPart : ObjectForm → Told → Option ColumnKind → List ℕ → FoundParts → Type 0
ReadsPart Keyed told columns part parts = ReadsKeyed (has_files part) told columns part parts
ReadsPart AsDocument told columns part parts = ReadsDocument part parts
ReadsPart AsLog told columns part parts = ReadsLog told columns part parts

-- it means nothing, and the line says why
abbrev pub IsNonePart : ObjectForm → Option ColumnUnit → List ℕ → List ℕ → Type 0
IsNonePart Keyed columns part line = IsNoneKeyed (has_files part) columns part line
IsNonePart AsDocument columns part line = IsNoDocument columns part line
IsNonePart AsLog columns part line = IsNoLog part line

-- ---- the object among other lines

abbrev pub part_of : List ℕ → Range ℕ → List ℕ
part_of bytes range = slice_range bytes range.start range.end

-- what stands before it; a byte order mark is nothing
abbrev pub before : List ℕ → Range ℕ → List ℕ
before bytes range = behind_mark (take range.start bytes)

-- what stands around it
abbrev pub around : List ℕ → Range ℕ → List ℕ
around bytes range = before bytes range ++ drop range.end bytes
