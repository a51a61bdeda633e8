-- A block of rows, marks and frames.
use Rattle.std.specs.Prelude.{◌≡◌, ◌⊎◌, ℕ, ◌+◌, ◌<◌, ◌≤◌, ◌^◌, min, List, [], ◌∷◌, length, slice_range, Option, None, Some}
use Rattle.excerpt_lines.specs.declared.items.Item.{Item}
use Rattle.excerpt_lines.specs.Cells.{cell_at, places_of}
use Rattle.excerpt_lines.specs.Lines.{HasItems, is_marks}
use Rattle.excerpt_blocks.specs.declared.below.Row.{Row}
use Rattle.excerpt_blocks.specs.declared.blocks.RowHead.{RowHead}
use Rattle.excerpt_blocks.specs.declared.blocks.Role.{Role}
use Rattle.excerpt_blocks.specs.declared.blocks.Role.TheVariants.{Row as RowRole, Marks, Gap, Frame, Other}
use Rattle.excerpt_blocks.specs.Below.{State, hung_cells, margin_from, read_all, with_row}

-- the row that a line prints
abbrev pub row_of : ℕ → List ℕ → RowHead → State → Row
row_of number line head s = let text = min head.text (length line) in record { line = number; number = head.number; sign = head.sign; text = text; cell = cell_at line text; marks = length s.marks; texts = length s.texts; gap = s.gap }

-- the row begins, and its margin is read
abbrev pub margin_of : ℕ → List ℕ → RowHead → State → Option State
margin_of number line head s =
    let row = row_of number line head s in let from = min head.margin row.text in
    margin_from line from (slice_range line from row.text) (with_row s row)

-- these are the items of a line of marks; its texts end before the cells at which others will hang
abbrev pub AreItems : List ℕ → ℕ → State → List Item → Type 0
AreItems line text s items = HasItems line (places_of (hung_cells s) line) (min text (length line)) is_marks items

-- marks and texts are read below a row
pub record MarksAdd (number : ℕ) (line : List ℕ) (text : ℕ) (above : List ℕ) (s end : State) : Type 0 where
  pub short : length line < 2 ^ 32
  pub row : 0 < length s.rows
  pub items : List Item
  pub items_are : AreItems line text s items
  pub read : read_all above line number items s ≡ Some end

-- one of the items has no meaning there
pub record HasRefused (number : ℕ) (line : List ℕ) (text : ℕ) (above : List ℕ) (s : State) : Type 0 where
  pub items : List Item
  pub items_are : AreItems line text s items
  pub refused : read_all above line number items s ≡ None

-- or the line is too long, or there is no row above it
abbrev pub MarksRefused : ℕ → List ℕ → ℕ → List ℕ → State → Type 0
MarksRefused number line text above s = (2 ^ 32 ≤ length line) ⊎ (s.rows ≡ []) ⊎ HasRefused number line text above s

-- a line of each role is read, below the last row's line; then another line may be above the next
abbrev pub LineAdds : ℕ → List ℕ → Role → List ℕ → State → List ℕ → State → Type 0
LineAdds number line (RowRole head) above s next end =
    (length line < 2 ^ 32) × (next ≡ line) × (margin_of number line head s ≡ Some end)
LineAdds number line (Marks text) above s next end = (next ≡ above) × MarksAdd number line text above s end
LineAdds number line Gap above s next end = (next ≡ above) × (end ≡ record s { gap = number })
LineAdds number line Frame above s next end = (next ≡ above) × (end ≡ s)
LineAdds number line Other above s next end = ⊥

-- a line of each role isn't read
abbrev pub LineRefused : ℕ → List ℕ → Role → List ℕ → State → Type 0
LineRefused number line (RowRole head) above s = (2 ^ 32 ≤ length line) ⊎ (margin_of number line head s ≡ None)
LineRefused number line (Marks text) above s = MarksRefused number line text above s
LineRefused number line Gap above s = ⊥
LineRefused number line Frame above s = ⊥
LineRefused number line Other above s = Unit {0}

-- the lines of a block are read, one after another, and at the end no span is open
abbrev pub Adds : ℕ → List (List ℕ) → List Role → List ℕ → State → State → Type 0
Adds number [] roles above s end = (s ≡ end) × (length s.opens ≡ 0)
Adds number (line ∷ lines) [] above s end = ⊥
Adds number (line ∷ lines) (role ∷ roles) above s end =
    (next : List ℕ) × (mid : State) × LineAdds number line role above s next mid × Adds (number + 1) lines roles next mid end

-- one of them isn't read, after those before it, or a span is open at the end
abbrev pub Refuses : ℕ → List (List ℕ) → List Role → List ℕ → State → Type 0
Refuses number [] roles above s = 0 < length s.opens
Refuses number (line ∷ lines) [] above s = ⊥
Refuses number (line ∷ lines) (role ∷ roles) above s =
    LineRefused number line role above s
    ⊎ ((next : List ℕ) × (mid : State) × LineAdds number line role above s next mid × Refuses (number + 1) lines roles next mid)
