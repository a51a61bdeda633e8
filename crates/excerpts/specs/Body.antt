-- A body read as a whole, or kept.
use Rattle.std.specs.Prelude.{◌≡◌, ◌⊎◌, ℕ, ◌+◌, ◌<◌, Bool, true, false, List, [], ◌∷◌, ◌++◌, length, take, drop, map, Some, None}
use Rattle.excerpt_blocks.specs.declared.below.Hang.{Hang}
use Rattle.excerpt_blocks.specs.declared.below.Text.{Text}
use Rattle.excerpts.specs.declared.cuts.Open.{Open}
use Rattle.excerpts.specs.declared.cuts.Outline.{Outline}
use Rattle.excerpts.specs.declared.cuts.Part.{Part}
use Rattle.excerpts.specs.declared.cuts.PartKind.{PartKind}
use Rattle.excerpts.specs.declared.cuts.PartKind.TheVariants.{Empty, Place, Note, GoesOn, Frames, Source, Loose, Suggestion, Kept}
use Rattle.excerpts.specs.declared.cuts.TheConstants.{START}
use Rattle.excerpt_blocks.specs.declared.labels.Label.{Label}
use Rattle.excerpt_blocks.specs.declared.labels.Spot.{Spot}
use Rattle.excerpts.specs.declared.body.Block.{Block}
use Rattle.excerpts.specs.declared.body.Excerpt.{Excerpt}
use Rattle.excerpt_blocks.specs.Below.{State, empty_state, state_of}
use Rattle.excerpt_blocks.specs.Blocks.{Adds, Refuses}
use Rattle.excerpts.specs.Cuts.{IsOutline, after, part_in}
use Rattle.excerpt_blocks.specs.Labels.{labels_in}
use Rattle.excerpts.specs.Roles.{margin_of, roles_from}

-- each line has its outline
abbrev pub AreOutlines : List (List ℕ) → List Outline → Type 0
AreOutlines [] [] = Unit {0}
AreOutlines [] (outline ∷ outlines) = ⊥
AreOutlines (line ∷ lines) [] = ⊥
AreOutlines (line ∷ lines) (outline ∷ outlines) = IsOutline line outline × AreOutlines lines outlines

-- a block: what is drawn, and its labels
pub record BlockRead : Type 0 where
  pub below : State
  pub labels : List Label

abbrev pub block_of : Block → BlockRead
block_of block = record { below = state_of block.below; labels = block.labels.items }

abbrev pub is_block : PartKind → Bool
is_block Empty = false
is_block (Place p) = false
is_block (Note n) = false
is_block (GoesOn below) = false
is_block Frames = false
is_block Source = true
is_block Loose = true
is_block Suggestion = true
is_block Kept = false

abbrev pub is_nothing : List Text → List Hang → Bool
is_nothing [] [] = true
is_nothing [] (hang ∷ hangs) = false
is_nothing (text ∷ texts) hangs = false

-- below the rows of a suggestion there are marks alone
abbrev pub suits : PartKind → State → Bool
suits Empty s = true
suits (Place p) s = true
suits (Note n) s = true
suits (GoesOn below) s = true
suits Frames s = true
suits Source s = true
suits Loose s = true
suits Suggestion s = is_nothing s.texts s.hangs
suits Kept s = true

-- the block of a part: all its lines are read, and the labels are those of what is drawn
pub record IsBlock (spot : Spot) (part : Part) (lines : List (List ℕ)) (outlines : List Outline) (block : BlockRead) : Type 0 where
  pub adds : Adds part.first lines (roles_from part.kind spot (margin_of outlines) true outlines) [] empty_state block.below
  pub suited : suits part.kind block.below ≡ true
  pub labels : block.labels ≡ labels_in spot block.below

-- all lines of a block are read, but it has more than its part may have
pub record IsUnsuited (spot : Spot) (part : Part) (lines : List (List ℕ)) (outlines : List Outline) : Type 0 where
  pub below : State
  pub adds : Adds part.first lines (roles_from part.kind spot (margin_of outlines) true outlines) [] empty_state below
  pub unsuited : suits part.kind below ≡ false

-- a line of a block isn't read, or the block is unsuited
abbrev pub BlockRefused : Spot → Part → List (List ℕ) → List Outline → Type 0
BlockRefused spot part lines outlines =
    Refuses part.first lines (roles_from part.kind spot (margin_of outlines) true outlines) [] empty_state ⊎ IsUnsuited spot part lines outlines

abbrev pub HasBlocks : Bool → Spot → Part → List (List ℕ) → List Outline → List BlockRead → Type 0
HasBlocks true spot part lines outlines blocks = (block : BlockRead) × (blocks ≡ block ∷ []) × IsBlock spot part lines outlines block
HasBlocks false spot part lines outlines blocks = blocks ≡ []

-- a part that is a block has one, any other none
pub record PartBlocks (spot : Spot) (part : Part) (lines : List (List ℕ)) (outlines : List Outline) (blocks : List BlockRead) : Type 0 where
  pub has : HasBlocks (is_block part.kind) spot part lines outlines blocks

-- the block of a part isn't read
pub record PartRefused (spot : Spot) (part : Part) (lines : List (List ℕ)) (outlines : List Outline) : Type 0 where
  pub block : is_block part.kind ≡ true
  pub refused : BlockRefused spot part lines outlines

-- a part is added, with its block
pub record AddsPart (spot : Spot) (part : Part) (lines : List (List ℕ)) (outlines : List Outline) (old new : Excerpt) : Type 0 where
  pub parts : new.parts.items ≡ old.parts.items ++ part ∷ []
  pub mine : List BlockRead
  pub blocks : map block_of new.blocks.items ≡ map block_of old.blocks.items ++ mine
  pub has : PartBlocks spot part lines outlines mine

-- the first part of the lines, with its blocks
pub record IsPart (spot : Spot) (state : Open) (number : ℕ) (lines : List (List ℕ)) (outlines : List Outline) (part : Part) (blocks : List BlockRead) : Type 0 where
  pub part_is : part_in spot state number outlines ≡ Some part
  pub has : PartBlocks spot part (take part.lines lines) (take part.lines outlines) blocks

-- the lines are read: they are these parts, one after another, with these blocks
abbrev pub Reads : Spot → Open → ℕ → List (List ℕ) → List Outline → List Part → List BlockRead → Type 0
Reads spot state number lines outlines [] blocks = (lines ≡ []) × (blocks ≡ [])
Reads spot state number lines outlines (part ∷ parts) blocks =
    (mine : List BlockRead) × (rest : List BlockRead) × (blocks ≡ mine ++ rest) × IsPart spot state number lines outlines part mine
    × Reads spot (after state part.kind) (number + part.lines) (drop part.lines lines) (drop part.lines outlines) parts rest

-- the next lines aren't read: they are no part, or a block that is refused
abbrev pub IsRefused : Spot → Open → ℕ → List (List ℕ) → List Outline → Type 0
IsRefused spot state number lines outlines =
    (part_in spot state number outlines ≡ None)
    ⊎ ((part : Part) × (part_in spot state number outlines ≡ Some part) × PartRefused spot part (take part.lines lines) (take part.lines outlines))

-- after these parts, the next lines aren't read
abbrev pub Stops : Spot → Open → ℕ → List (List ℕ) → List Outline → List Part → Type 0
Stops spot state number lines outlines [] = (0 < length lines) × IsRefused spot state number lines outlines
Stops spot state number lines outlines (part ∷ parts) =
    (mine : List BlockRead) × IsPart spot state number lines outlines part mine
    × Stops spot (after state part.kind) (number + part.lines) (drop part.lines lines) (drop part.lines outlines) parts

pub record IsStopped (spot : Spot) (lines : List (List ℕ)) (outlines : List Outline) : Type 0 where
  pub parts : List Part
  pub stops : Stops spot START 0 lines outlines parts

-- a body is read whole
pub record IsRead (spot : Spot) (lines : List (List ℕ)) (excerpt : Excerpt) : Type 0 where
  pub outlines : List Outline
  pub outlines_are : AreOutlines lines outlines
  pub reads : Reads spot START 0 lines outlines excerpt.parts.items (map block_of excerpt.blocks.items)

-- a body is kept: after some parts, the next lines aren't read
pub record IsKept (spot : Spot) (lines : List (List ℕ)) : Type 0 where
  pub outlines : List Outline
  pub outlines_are : AreOutlines lines outlines
  pub stopped : IsStopped spot lines outlines
