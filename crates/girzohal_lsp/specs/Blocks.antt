-- The pieces of a tool's lines, cut into blocks.
use Rattle.std.specs.Prelude.{◌≡◌, ℕ, ◌&&◌, not, Bool, true, List, [], ◌∷◌, ◌++◌, drop, map, Option, Some, None}
use Rattle.std.specs.List.{filter_map, list_any}
use Rattle.std.specs.Option.{is_none}
use Rattle.oxc_protocol.specs.Parts.{OxcParts}
use Rattle.found_reports.specs.Held.{Held}
use Rattle.line_shapes.specs.declared.tools.Columns.{Columns}
use Rattle.source_store.specs.Matching.{is_named}
use Rattle.source_store.specs.declared.named.Spelling.TheVariants.{Path}
use Rattle.tool_lines.specs.Lines.{FindingParts}
use Rattle.line_reports.specs.Pieces.{ReadParts, read_parts}
use Rattle.line_reports.specs.Reports.{reports_in}
use Rattle.girzohal_lsp.specs.Found.{pick}
use Rattle.girzohal_lsp.specs.declared.block.Block.{Block}

-- pieces with what was read of them, and their lines with all behind them
pub record BlockParts : Type 0 where
  pub lines : List (List ℕ)
  pub reads : List ReadParts

abbrev pub block_parts : Block → BlockParts
block_parts block = record { lines = map (λ line. line.now) block.lines.now; reads = map read_parts block.reads.now }

abbrev pub stands_by : Option FindingParts → Bool
stands_by None = true
stands_by (Some finding) = not (finding.says.aside && is_none finding.says.code)

-- a piece is no note of the finding before it
abbrev pub stands_alone : ReadParts → Bool
stands_alone read = stands_by read.piece.begun.finding

-- no piece is a note of what stands before the first
abbrev pub BeginsAlone : List ReadParts → Type 0
BeginsAlone [] = Unit {0}
BeginsAlone (read ∷ rest) = stands_alone read ≡ true

-- the lines behind those of pieces
abbrev pub behind : List (List ℕ) → List ReadParts → List (List ℕ)
behind lines [] = lines
behind lines (read ∷ rest) = behind (drop read.piece.lines lines) rest

-- pieces, which begin with the first of these lines, are those of blocks one behind another; none of them begins with a note of what stands before it
abbrev pub AreBlocks : List (List ℕ) → List ReadParts → List BlockParts → Type 0
AreBlocks lines reads [] = reads ≡ []
AreBlocks lines reads (block ∷ blocks) =
    (others : List ReadParts) × (reads ≡ block.reads ++ others) × BeginsAlone others × (block.lines ≡ lines) × AreBlocks (behind lines block.reads) others blocks

-- one of these paths is that of a file, or an end of it
abbrev pub is_one_named : List ℕ → List (List ℕ) → Bool
is_one_named path paths = list_any (is_named path) paths

-- the findings of a block on a file
abbrev pub picked_in : List ℕ → Columns → (List ℕ → Held) → BlockParts → List OxcParts
picked_in path columns told block = filter_map (pick Path path) (reports_in columns told block.lines block.reads)
