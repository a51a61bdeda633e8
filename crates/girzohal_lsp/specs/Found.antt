-- What is shown of a log's findings in an open file.
use Rattle.std.specs.Prelude.{◌≡◌, ◌⊎◌, ℕ, List, [], ◌∷◌, map, true, Option, Some, None, unwrap_or, if◌then◌else◌}
use Rattle.std.specs.Borrow.{Bor}
use Rattle.std.specs.List.{filter_map}
use Rattle.oxc_protocol.specs.Parts.{OxcParts}
use Rattle.found_reports.specs.Found.{Found}
use Rattle.found_reports.specs.Held.{Held, holds, lacks}
use Rattle.found_reports.specs.declared.sources.Lack.TheVariants.{Missing}
use Rattle.source_store.specs.Given.{IsGiven}
use Rattle.source_store.specs.declared.named.Spelling.{Spelling}
use Rattle.source_store.specs.declared.named.Spelling.TheVariants.{Path, Uri}
use Rattle.sarif_log.specs.Log.{Log, log_view}
use Rattle.sarif_log.specs.declared.log.ColumnKind.{ColumnKind}
use Rattle.sarif_log.specs.declared.log.ColumnKind.TheVariants as kind
use Rattle.sarif.specs.Asked as sarif
use Rattle.sarif.specs.Meaning as sarif_meaning
use Rattle.line_shapes.specs.Tools as tools
use Rattle.line_shapes.specs.declared.tables.Unit.{Unit as ColumnUnit}
use Rattle.line_shapes.specs.declared.tables.Unit.TheVariants.{Bytes, Characters, Utf16, Cells}
use Rattle.line_shapes.specs.declared.tools.Columns.{Columns}
use Rattle.tool_lines.specs.Lines.{ArePieces, PieceParts, lines_of}
use Rattle.tool_lines.specs.Paint.{unpainted}
use Rattle.line_reports.specs.Names as lines
use Rattle.line_reports.specs.Pieces.{AreRead, ReadParts}
use Rattle.line_reports.specs.Reports as lines_meaning
use Rattle.lsp_server.specs.Seen.{StandIn}
use Rattle.source_store.specs.Matching.{is_named, means_file}
use Rattle.girzohal_lsp.specs.declared.log.LogFile.{LogFile}
use Rattle.girzohal_lsp.specs.declared.log.LogFile.TheVariants.{Sarif, Lines, Fault}
use Rattle.girzohal_lsp.specs.declared.words.Asked.{Asked}

-- ---- which findings, and how they are shown

-- a finding on a name that means the file
unfoldable pub pick : Spelling → List ℕ → Found → Option OxcParts
pick spelling path it = if means_file spelling path it.name then Some it.diagnostic else None

-- with its labels where they stand in the text, and else without
abbrev pub IsFitted : List ℕ → OxcParts → OxcParts → Type 0
IsFitted text it shown = (StandIn text it × (shown ≡ it)) ⊎ ((¬ StandIn text it) × (shown ≡ record it { labels = [] }))

abbrev pub IsPicked : List ℕ → Option OxcParts → Option OxcParts → Type 0
IsPicked text None shown = shown ≡ None
IsPicked text (Some it) None = ⊥
IsPicked text (Some it) (Some shown) = IsFitted text it shown

-- each so, in their order
abbrev pub AreFitted : List ℕ → List OxcParts → List OxcParts → Type 0
AreFitted text [] shown = shown ≡ []
AreFitted text (it ∷ rest) [] = ⊥
AreFitted text (it ∷ rest) (first ∷ others) = IsFitted text it first × AreFitted text rest others

-- of these findings those on the file are shown, in their order
abbrev pub AreShown : Spelling → List ℕ → List ℕ → List Found → List OxcParts → Type 0
AreShown spelling path text found shown = AreFitted text (filter_map (pick spelling path) found) shown

-- ---- what a log finds

-- of paths that mean the file there is its text, and of others nothing
abbrev pub told_open : List ℕ → List ℕ → List ℕ → Option Held
told_open path text other = Some (if is_named path other then holds text else lacks Missing)

-- columns count what was asked for, where logs can count it
abbrev pub log_columns : Option ColumnUnit → Option ColumnKind
log_columns None = None
log_columns (Some Bytes) = None
log_columns (Some Characters) = Some kind.Characters
log_columns (Some Utf16) = Some kind.Utf16
log_columns (Some Cells) = None

-- the findings of a SARIF log, whose names are URIs, with what is given of the names in it
pub record ShowsLog (asked : Asked) (log : Log) (path text : List ℕ) (shown : List OxcParts) : Type 0 where
  pub given : List ℕ → Held
  pub told_so : IsGiven (told_open path text) Uri (sarif.names_in log) given
  pub are : AreShown Uri path text (sarif_meaning.reports_in given (log_columns asked.columns) log) shown

abbrev pub tool_name : Option (Bor (List ℕ)) → List ℕ
tool_name None = []
tool_name (Some tool) = tool.now

-- characters from 1, where nothing is known of the tool
abbrev pub usual : Columns
usual = record { unit = Characters; first = 1; with_end = true }

-- what was asked for, else what is known of the tool
abbrev pub columns_of : Asked → Columns
columns_of asked =
    let known = unwrap_or (tools.columns_of (tool_name asked.tool)) usual in
    record known { unit = unwrap_or asked.columns known.unit; first = unwrap_or asked.first_column known.first }

-- the findings of a tool's lines, whose names are paths, with what is given of the names in them
pub record ShowsLines (asked : Asked) (bytes path text : List ℕ) (shown : List OxcParts) : Type 0 where
  pub pieces : List PieceParts
  pub those : ArePieces (tools.shapes_of (tool_name asked.tool)) None (lines_of (unpainted bytes)) pieces
  pub reads : List ReadParts
  pub of_them : map (λ (it : ReadParts). it.piece) reads ≡ pieces
  pub read : AreRead (lines_of (unpainted bytes)) reads
  pub given : List ℕ → Held
  pub told_so : IsGiven (told_open path text) Path (lines.names_in (lines_of (unpainted bytes)) reads) given
  pub are : AreShown Path path text (lines_meaning.reports_in (columns_of asked) given (lines_of (unpainted bytes)) reads) shown

abbrev pub Shows : Asked → LogFile → List ℕ → List ℕ → List OxcParts → Type 0
Shows asked (Sarif log) path text shown = ShowsLog asked (log_view log) path text shown
Shows asked (Lines bytes) path text shown = ShowsLines asked bytes.now path text shown
Shows asked (Fault why) path text shown = shown ≡ []

-- what is shown in a file whose URI says this path; nothing where it says none
abbrev pub ShowsAt : Asked → LogFile → Option (List ℕ) → List ℕ → List OxcParts → Type 0
ShowsAt asked log None text shown = shown ≡ []
ShowsAt asked log (Some path) text shown = Shows asked log path text shown
