-- What is read of a log, once for all documents.
use Rattle.std.specs.Prelude.{◌≡◌, ℕ, List, map, Option, Some, None, codes, string_bytes}
use Rattle.std.specs.List.{filter_map}
use Rattle.std.specs.Option.{option_copied}
use Rattle.sarif.specs.Asked as sarif
use Rattle.sarif_log.specs.Log.{log_view}
use Rattle.line_shapes.specs.Tools.{shapes_of}
use Rattle.tool_lines.specs.Lines.{ArePieces, PieceParts, lines_of}
use Rattle.tool_lines.specs.Paint.{unpainted}
use Rattle.line_reports.specs.Names as lines
use Rattle.line_reports.specs.Pieces.{AreRead, ReadParts}
use Rattle.source_store.specs.Named.{path_in}
use Rattle.source_store.specs.declared.named.Spelling.TheVariants.{Uri}
use Rattle.girzohal_lsp.specs.Blocks.{AreBlocks, BlockParts, block_parts}
use Rattle.girzohal_lsp.specs.Found.{tool_name}
use Rattle.girzohal_lsp.specs.Logs.{IsFault, IsRead}
use Rattle.girzohal_lsp.specs.declared.kept.KeptLog.{KeptLog}
use Rattle.girzohal_lsp.specs.declared.log.LogFile.{LogFile}
use Rattle.girzohal_lsp.specs.declared.log.LogFile.TheVariants.{Sarif, Lines, Fault}
use Rattle.girzohal_lsp.specs.declared.words.Asked.{Asked}

-- what the bytes of the log's file are read as; or it can't be read
abbrev pub IsLogOf : Asked → Option (List ℕ) → LogFile → Type 0
IsLogOf asked None log = IsFault (codes "it can't be read") log
IsLogOf asked (Some bytes) log = IsRead asked.from bytes log

-- pieces of lines, and what was read of them
pub record ReadsLines (tool : List ℕ) (all : List (List ℕ)) (reads : List ReadParts) : Type 0 where
  pub pieces : List PieceParts
  pub those : ArePieces (shapes_of tool) None all pieces
  pub of_them : map (λ (it : ReadParts). it.piece) reads ≡ pieces
  pub read : AreRead all reads

-- the names that the pieces of a tool's lines ask for, and the blocks of these pieces
pub record KeepsLines (tool bytes : List ℕ) (names : List (List ℕ)) (blocks : List BlockParts) : Type 0 where
  pub reads : List ReadParts
  pub are_read : ReadsLines tool (lines_of (unpainted bytes)) reads
  pub names_are : names ≡ lines.names_in (lines_of (unpainted bytes)) reads
  pub blocks_are : AreBlocks (lines_of (unpainted bytes)) reads blocks

-- what is kept beside a log is what is read of it
abbrev pub KeepsParts : Asked → LogFile → List (List ℕ) → List (List ℕ) → List BlockParts → Type 0
KeepsParts asked (Sarif log) names paths blocks = (names ≡ sarif.names_in (log_view log)) × (paths ≡ filter_map (path_in Uri) names)
KeepsParts asked (Lines bytes) names paths blocks = KeepsLines (tool_name asked.tool) bytes.now names blocks
KeepsParts asked (Fault why) names paths blocks = Unit {0}

-- the log is that of its bytes, and has its parts beside it
pub record IsKept (kept : KeptLog) : Type 0 where
  pub log : IsLogOf kept.asked (option_copied kept.bytes) kept.log.now
  pub parts : KeepsParts kept.asked kept.log.now (map string_bytes kept.names.now) (map string_bytes kept.paths.now) (map block_parts kept.blocks.now)
