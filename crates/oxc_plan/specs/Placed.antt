-- Marks that stand one after another, as a relation: what the list of placed marks is the only one to meet.
use Rattle.std.specs.Prelude.{◌≡◌, ℕ, ◌+◌, ◌/◌, List, [], ◌∷◌, max}
use Rattle.oxc_span.specs.declared.span.Span.{Span}
use Rattle.oxc_plan.specs.declared.marks.LabelCells.{LabelCells}
use Rattle.oxc_plan.specs.declared.marks.MarkCells.{MarkCells}
use Rattle.oxc_plan.specs.Marks.{row_cells, row_marks}
use Rattle.oxc_plan.specs.Rows.{RowView}

-- the mark of a label where the marks before it end before a cell: it starts at the label's first cell, or there if that is
-- later, ends with the label's last cell, and takes one cell at least; its bar stands in its middle
pub record IsPlaced (before : ℕ) (cells : LabelCells) (mark : MarkCells) : Type 0 where
  pub label : mark.label ≡ cells.label
  pub start : mark.start ≡ max cells.start before
  pub end : mark.end ≡ max cells.end (mark.start + 1)
  pub bar : mark.bar ≡ (mark.start + mark.end) / 2

-- a mark for each label, and each is placed where the one before it ends
abbrev pub ArePlaced : ℕ → List LabelCells → List MarkCells → Type 0
ArePlaced before [] [] = Unit {0}
ArePlaced before [] (mark ∷ marks) = ⊥
ArePlaced before (cells ∷ more) [] = ⊥
ArePlaced before (cells ∷ more) (mark ∷ marks) = IsPlaced before cells mark × ArePlaced mark.end more marks

-- the law: the marks of a row are placed, and no other list is
pub record HasOnePlacedList (tab : ℕ) (row : RowView) (spans : List Span) : Type 0 where
  pub placed : ArePlaced 0 (row_cells tab row spans) (row_marks tab row spans)
  pub one : (marks : List MarkCells) → ArePlaced 0 (row_cells tab row spans) marks → marks ≡ row_marks tab row spans
