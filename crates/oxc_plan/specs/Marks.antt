-- The marks of a row: one for each of its one-row labels, in label order, none over another.
use Rattle.std.specs.Prelude.{◌≡◌, ℕ, ◌+◌, ◌/◌, ◌<◌, ◌≤◌, ◌==◌, true, false, List, [], ◌∷◌, AllPairs, map, max, if◌then◌else◌}
use Rattle.oxc_span.specs.declared.span.Span.{Span}
use Rattle.oxc_plan.specs.declared.marks.LabelCells.{LabelCells}
use Rattle.oxc_plan.specs.declared.marks.MarkCells.{MarkCells}
use Rattle.oxc_plan.specs.Groups.{span_at}
use Rattle.oxc_plan.specs.Meets.{one_row_labels}
use Rattle.oxc_plan.specs.Rows.{RowView}
use Rattle.oxc_plan.specs.Columns.{column_at}

-- the cells of a one-row label: from the column of its start to before that of its end, one at least, and one where
-- the label is empty
abbrev pub cells_between : ℕ → Span → ℕ → ℕ → LabelCells
cells_between label span first past =
    record { label = label; start = first; end = (if span.start == span.end then first + 1 else max past (first + 1)) }

abbrev pub cells_of : ℕ → RowView → ℕ → Span → LabelCells
cells_of tab row label span = cells_between label span (column_at tab row span.start true) (column_at tab row span.end false)

-- the cells of the labels at these places of spans in label order
unfoldable pub cells_at : ℕ → RowView → List Span → List ℕ → List LabelCells
cells_at tab row spans places = map (λ at. cells_of tab row at (span_at spans at)) places

-- the mark of a label where the marks before it end before a cell: it starts at the label's first cell, or at that one if
-- that is later; it ends with the label's last cell, or with its own first if that is later; the bar stands in its middle
abbrev pub mark_start : ℕ → LabelCells → ℕ
mark_start before cells = max cells.start before

abbrev pub mark_end : ℕ → LabelCells → ℕ
mark_end before cells = max cells.end (mark_start before cells + 1)

abbrev pub mark_of : ℕ → LabelCells → MarkCells
mark_of before cells =
    let start = mark_start before cells in
    let end = mark_end before cells in
    record { label = cells.label; start = start; end = end; bar = (start + end) / 2 }

-- the placed marks of cells in label order
unfoldable pub placed_marks : ℕ → List LabelCells → List MarkCells
placed_marks before [] = []
placed_marks before (cells ∷ more) = mark_of before cells ∷ placed_marks (mark_end before cells) more

-- the placed marks of the labels at these places of spans in label order
abbrev pub marks_at : ℕ → RowView → List Span → List ℕ → List MarkCells
marks_at tab row spans places = placed_marks 0 (cells_at tab row spans places)

-- the cells of a row's one-row labels, and their marks
abbrev pub row_cells : ℕ → RowView → List Span → List LabelCells
row_cells tab row spans = cells_at tab row spans (one_row_labels row.offset row.length spans)

abbrev pub row_marks : ℕ → RowView → List Span → List MarkCells
row_marks tab row spans = placed_marks 0 (row_cells tab row spans)

-- marks from left to right: each starts at or after the end of the one before, and its bar is one of its cells
abbrev pub AreInOrder : ℕ → List MarkCells → Type 0
AreInOrder before [] = Unit {0}
AreInOrder before (mark ∷ more) = (before ≤ mark.start) × (mark.start ≤ mark.bar) × (mark.bar < mark.end) × AreInOrder mark.end more

-- labels without overlap: the cells of each begin at or after the end of those before
abbrev pub DoNotOverlap : List LabelCells → Type 0
DoNotOverlap cells = AllPairs (λ a b. a.end ≤ b.start) cells

-- the cells that a mark takes
abbrev pub marked_cells : MarkCells → LabelCells
marked_cells mark = record { label = mark.label; start = mark.start; end = mark.end }

-- the law: a mark ends one cell after its start where its label is empty, and otherwise at the column of the label's end,
-- or one cell after its start if that is later
abbrev pub HasEndsByColumns : ℕ → RowView → Type 0
HasEndsByColumns tab row =
    (before label : ℕ) (span : Span)
    → let mark = mark_of before (cells_of tab row label span) in
    mark.end ≡ (if span.start == span.end then mark.start + 1 else max (column_at tab row span.end false) (mark.start + 1))

-- the law: where labels of one row share no cell, the marks of each fill its own cells, and stand nowhere else
abbrev pub HasExactMarks : ℕ → RowView → List Span → Type 0
HasExactMarks tab row spans = DoNotOverlap (row_cells tab row spans) → map marked_cells (row_marks tab row spans) ≡ row_cells tab row spans
