-- What is made of lines that a tool prints for people.
use Rattle.std.specs.Prelude.{◌≡◌, ◌||◌, ◌&&◌, ℕ, List, [], None, Bool, true, false, is_none}
use Rattle.found_reports.specs.Files.{files_of}
use Rattle.found_reports.specs.Held.{Held}
use Rattle.found_reports.specs.Kept.{FoundParts}
use Rattle.found_reports.specs.Listed.{held_in}
use Rattle.found_reports.specs.declared.sources.Source.{Source}
use Rattle.source_store.specs.Given.{AddsAll, IsGiven}
use Rattle.source_store.specs.declared.named.Spelling.TheVariants.{Path}
use Rattle.tool_lines.specs.Lines.{ArePieces, PieceParts}
use Rattle.line_reports.specs.Names.{names_in}
use Rattle.line_reports.specs.Pieces.{ReadParts}
use Rattle.line_reports.specs.Reports.{reports_in}
use Rattle.girzohal_options.specs.declared.Asked.{Asked}
use Rattle.girzohal_options.specs.declared.OutputForm.{OutputForm}
use Rattle.girzohal_options.specs.declared.OutputForm.TheVariants.{Drawing, Json, Document, Sarif, Problems, Github, Gitlab, Checkstyle, Junit, Stylish, Summary, Markdown, Html}
use Rattle.drawn_lines.specs.Text.{lines_of}
use Rattle.drawn_lines.specs.Lines.{annotates, columns_of, kept_text, shapes_of}
use Rattle.drawn_lines.specs.Coming.{IsDrawn, Reads, named_whole, tried_whole}
use Rattle.girzohal_run.specs.Filtering.{IsWritten, with_line}
use Rattle.girzohal_run.specs.Told.{Told}

abbrev pub is_drawing : OutputForm → Bool
is_drawing Drawing = true
is_drawing Json = false
is_drawing Document = false
is_drawing Sarif = false
is_drawing Problems = false
is_drawing Github = false
is_drawing Gitlab = false
is_drawing Checkstyle = false
is_drawing Junit = false
is_drawing Stylish = false
is_drawing Summary = false
is_drawing Markdown = false
is_drawing Html = false

-- drawings and annotations of lines are written as the lines come
abbrev pub is_live : OutputForm → Bool
is_live form = is_drawing form || annotates form

-- the text and the level of the reports that these pieces of lines mean with what was given, where their bodies are read, among the files that they
-- are on, after filters; the lines that are no findings, and the line about filters
pub record WritesPieces (asked : Asked) (given : List ℕ → Held) (lines : List (List ℕ)) (pieces : List PieceParts) (reads : List ReadParts) (text aside : List ℕ) (reached : Bool) : Type 0 where
  pub parts : FoundParts
  pub reports : parts.found ≡ reports_in (columns_of asked) given lines reads
  pub files : parts.files ≡ files_of parts.found
  pub line : List ℕ
  pub written : IsWritten asked true parts text line reached
  pub kept : aside ≡ with_line (kept_text asked lines pieces) line

-- the names of the findings of these pieces were sought with more sources of a store, and then the pieces are these
pub record AreSought (told : Told) (asked : Asked) (before now : List Source) (lines : List (List ℕ)) (pieces named : List PieceParts) : Type 0 where
  pub tried : AddsAll told Path before now (tried_whole asked (held_in now) lines pieces)
  pub named_is : named ≡ named_whole asked (held_in now) lines pieces

-- the bodies of these pieces were read, and for the names in them more sources of a store were added
pub record ReadsNamed (told : Told) (before now : List Source) (lines : List (List ℕ)) (pieces : List PieceParts) (reads : List ReadParts) : Type 0 where
  pub reads_are : Reads lines pieces reads
  pub adds : AddsAll told Path before now (names_in lines reads)

-- then the text and the level of their reports are these
pub record ListsNamed (told : Told) (asked : Asked) (before : List Source) (lines : List (List ℕ)) (pieces : List PieceParts) (text aside : List ℕ) (reached : Bool) : Type 0 where
  pub now : List Source
  pub reads : List ReadParts
  pub named : ReadsNamed told before now lines pieces reads
  pub writes : WritesPieces asked (held_in now) lines pieces reads text aside reached

-- the pieces of a text's lines, where a finding has the name that it has from the root, by what was given of places
pub record AreNamed (told : Told) (asked : Asked) (bytes : List ℕ) (given : List ℕ → Held) (named : List PieceParts) : Type 0 where
  pub pieces : List PieceParts
  pub are : ArePieces (shapes_of asked) None (lines_of bytes) pieces
  pub tried_so : IsGiven told Path (tried_whole asked given (lines_of bytes) pieces) given
  pub named_is : named ≡ named_whole asked given (lines_of bytes) pieces

-- the same with what was given of the names in them
pub record NamesLines (told : Told) (asked : Asked) (bytes : List ℕ) (given : List ℕ → Held) (named : List PieceParts) (reads : List ReadParts) : Type 0 where
  pub are : AreNamed told asked bytes given named
  pub reads_are : Reads (lines_of bytes) named reads
  pub told_so : IsGiven told Path (names_in (lines_of bytes) reads) given

-- the text and the level of the reports of the pieces of a text's lines
pub record ListsLines (told : Told) (asked : Asked) (bytes text aside : List ℕ) (reached : Bool) : Type 0 where
  pub given : List ℕ → Held
  pub named : List PieceParts
  pub reads : List ReadParts
  pub names : NamesLines told asked bytes given named reads
  pub writes : WritesPieces asked given (lines_of bytes) named reads text aside reached

-- so are those of lines, unless there are filters: these read the whole input first
abbrev pub may_come : Asked → Bool
may_come asked = is_live asked.to && is_none asked.rules

-- drawings and annotations without filters are made as lines come; else kept lines go to standard error
abbrev pub MakesLinesBy : Bool → Told → Asked → List ℕ → List ℕ → List ℕ → Bool → Type 0
MakesLinesBy true told asked bytes text aside reached = IsDrawn told asked bytes text aside reached
MakesLinesBy false told asked bytes text aside reached = ListsLines told asked bytes text aside reached

abbrev pub MakesLines : Told → Asked → List ℕ → List ℕ → List ℕ → Bool → Type 0
MakesLines told asked bytes text aside reached = MakesLinesBy (may_come asked) told asked bytes text aside reached
