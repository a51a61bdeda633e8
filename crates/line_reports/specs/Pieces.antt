-- Pieces with what was read of their lines.
use Rattle.std.specs.Prelude.{◌≡◌, ℕ, ◌==◌, List, [], ◌∷◌, if◌then◌else◌, take, drop, map, Option, Some, None, option_map}
use Rattle.std.specs.Str.{chars}
use Rattle.std.specs.Str.Lossy.{utf8_lossy}
use Rattle.excerpt_blocks.specs.declared.labels.Spot.{Spot}
use Rattle.excerpts.specs.declared.body.Excerpt.{Excerpt}
use Rattle.excerpts.specs.declared.cuts.Outline.{Outline}
use Rattle.excerpts.specs.declared.cuts.Part.{Part}
use Rattle.excerpts.specs.declared.cuts.TheConstants.{START}
use Rattle.excerpts.specs.Body.{AreOutlines, BlockRead, IsKept, Reads, block_of}
use Rattle.line_shapes.specs.Part.{Seen}
use Rattle.tool_lines.specs.Lines.{FindingParts, PieceParts, piece_parts}
use Rattle.line_reports.specs.declared.pieces.ReadPiece.{ReadPiece}

-- what a body says: its parts, and the drawings and suggestions among them
pub record ExcerptParts : Type 0 where
  pub parts : List Part
  pub blocks : List BlockRead

abbrev pub excerpt_parts : Excerpt → ExcerptParts
excerpt_parts excerpt = record { parts = excerpt.parts.items; blocks = map block_of excerpt.blocks.items }

-- a piece, and what its lines after the first say, if they are read
pub record ReadParts : Type 0 where
  pub piece : PieceParts
  pub excerpt : Option ExcerptParts

abbrev pub read_parts : ReadPiece → ReadParts
read_parts read = record { piece = piece_parts read.piece; excerpt = option_map excerpt_parts read.excerpt }

abbrev pub line_chars : List ℕ → List ℕ
line_chars line = chars (utf8_lossy line)

-- the lines of a piece after its first, in characters
abbrev pub body_chars : List (List ℕ) → List (List ℕ)
body_chars run = map line_chars (drop 1 run)

-- a row 0 is none
abbrev pub spot_by : Option ℕ → Option ℕ → Spot
spot_by None column = record { line = None; column = None }
spot_by (Some line) column = if line == 0 then record { line = None; column = None } else record { line = Some line; column = column }

-- where a finding is, as its first line says
abbrev pub spot_in : Seen → Spot
spot_in found = spot_by found.line found.column

-- a body is read whole, and this is what it says
pub record Says (spot : Spot) (lines : List (List ℕ)) (excerpt : ExcerptParts) : Type 0 where
  pub outlines : List Outline
  pub outlines_are : AreOutlines lines outlines
  pub reads : Reads spot START 0 lines outlines excerpt.parts excerpt.blocks

abbrev pub BodyRead : Spot → List (List ℕ) → Option ExcerptParts → Type 0
BodyRead spot lines None = IsKept spot lines
BodyRead spot lines (Some excerpt) = Says spot lines excerpt

-- of lines without a finding nothing is read
abbrev pub FindingRead : Option FindingParts → List (List ℕ) → Option ExcerptParts → Type 0
FindingRead None lines excerpt = excerpt ≡ None
FindingRead (Some finding) lines excerpt = BodyRead (spot_in finding.place.found) lines excerpt

-- a piece that has these lines is read
pub record IsPieceRead (run : List (List ℕ)) (read : ReadParts) : Type 0 where
  pub body : FindingRead read.piece.begun.finding (body_chars run) read.excerpt

-- pieces, which begin with the first of these lines, are read
abbrev pub AreRead : List (List ℕ) → List ReadParts → Type 0
AreRead lines [] = Unit {0}
AreRead lines (read ∷ rest) = IsPieceRead (take read.piece.lines lines) read × AreRead (drop read.piece.lines lines) rest
