-- What is known of the files of the reports so far.
use Rattle.std.specs.Prelude.{ℕ, ◌≡◌, ◌≤◌, ◌<◌, ◌^◌, List, Option, Some, None, IfSome, Bool, true, false, String, slice_get, map, option_map}
use Rattle.std.specs.BTreeMap.{BTreeMap, get_by_text}
use Rattle.std.specs.List.{All, list_any}
use Rattle.std.specs.Str.{bytes_eq}
use Rattle.std.specs.declared.alloc.Global.{Global}
use Rattle.std.specs.declared.ops.Range.{Range}
use Rattle.oxc_protocol.specs.Source.{Fits}
use Rattle.sarif_spans.specs.Span.{IsSpanOf}
use Rattle.found_reports.specs.Files.{files_of, with_file}
use Rattle.found_reports.specs.Found.{NamedHeld, file_at}
use Rattle.found_reports.specs.Held.{Held, holds, lacks}
use Rattle.found_reports.specs.Kept.{FoundParts}
use Rattle.indexed_sources.specs.declared.row_text.RowText.{RowText}
use Rattle.line_reports.specs.declared.labels.Mark.{Mark}
use Rattle.line_reports.specs.Told.{told_parts}
use Rattle.line_reports.specs.Asides.{AsidesStand, PlacedHeld, aside_parts}
use Rattle.line_reports.specs.Drawings.{drawings_parts}
use Rattle.line_reports.specs.Reports.{MarkParts}

abbrev pub text_in : Held → Option (List ℕ)
text_in (holds text) = Some text
text_in (lacks why) = None

abbrev pub row_text : Option RowText → Option (List ℕ)
row_text text = option_map (λ it. it.text.now) text

-- these are the texts of these files
abbrev pub AreTexts : List (Option RowText) → List NamedHeld → Type 0
AreTexts texts files = map row_text texts ≡ map (λ file. text_in file.held) files

-- a span stands in a text that is held
pub record StandsInText (text : List ℕ) (range : Range ℕ) : Type 0 where
  pub short : Fits text
  pub span : IsSpanOf text range

abbrev pub StandsHeld : Held → Range ℕ → Type 0
StandsHeld (holds text) range = StandsInText text range
StandsHeld (lacks why) range = ⊥

-- a label over it can be made
pub record FitsLabel (range : Range ℕ) : Type 0 where
  pub ordered : range.start ≤ range.end
  pub short : range.end < 2 ^ 32

abbrev pub mark_parts : Mark → MarkParts
mark_parts mark = record { note = told_parts mark.note.now; span = mark.span; drawings = drawings_parts mark.drawings; asides = map (option_map aside_parts) mark.asides.items }

-- a note's span and its labels do
pub record MarkStands (held : Held) (mark : MarkParts) : Type 0 where
  pub span : IfSome mark.span (StandsHeld held)
  pub labels : PlacedHeld held mark.drawings.labels

-- the spans of notes and their labels do
abbrev pub MarksStand : Held → List MarkParts → Type 0
MarksStand held marks = All (MarkStands held) marks

-- the labels of notes in other files do
abbrev pub MarksAside : (List ℕ → Held) → List MarkParts → Type 0
MarksAside told marks = All (λ mark. AsidesStand told mark.asides) marks

abbrev pub MarksFit : List MarkParts → Type 0
MarksFit marks = All (λ mark. IfSome mark.span FitsLabel) marks

abbrev pub has_name : Option NamedHeld → List ℕ → Bool
has_name None name = false
has_name (Some file) name = bytes_eq file.name name

-- there is a file of this number, and it has this name
abbrev pub is_named : List NamedHeld → ℕ → List ℕ → Bool
is_named files number name = has_name (slice_get files number) name

-- the number of the file of this name: none where no file has it
abbrev pub IsNumber : List NamedHeld → List ℕ → Option ℕ → Type 0
IsNumber files name None = list_any (λ file. bytes_eq file.name name) files ≡ false
IsNumber files name (Some number) = is_named files number name ≡ true

-- each name has the number of its file
abbrev pub AreNumbers : BTreeMap (String Global) ℕ → List NamedHeld → Type 0
AreNumbers numbers files = (name : List ℕ) → IsNumber files name (get_by_text numbers name)

-- the files are those of the reports so far, under their numbers
pub record IsListed (numbers : BTreeMap (String Global) ℕ) (parts : FoundParts) : Type 0 where
  pub numbered : AreNumbers numbers parts.files
  pub files : parts.files ≡ files_of parts.found

-- the same with this file, on which a report is to come
pub record IsListedWith (numbers : BTreeMap (String Global) ℕ) (parts : FoundParts) (file : ℕ) : Type 0 where
  pub numbered : AreNumbers numbers parts.files
  pub files : parts.files ≡ with_file (files_of parts.found) (file_at parts.files file)
