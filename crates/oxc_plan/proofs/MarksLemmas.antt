-- Placed marks: one more, their order, and where they are the labels' own cells.
use Rattle.std.proofs.Common.{◌≡◌, ℕ, ◌+◌, ◌<◌, ◌≤◌, Bool, true, false, List, [], ◌∷◌, ◌++◌, length, map, drop, get_or, refl, sym, ap, subst, ◌∙◌, arith, suc}
use Rattle.std.specs.Prelude.{All, max, ◌==◌, if◌then◌else◌}
use Rattle.std.proofs.lemmas.Bool.Decides.{nat_tests}
use Rattle.std.proofs.lemmas.List.{at_drop_more, at_drop_all, append_assoc}
use Rattle.std.proofs.lemmas.List.Elements.{All-head, All-tail, All-map}
use Rattle.oxc_span.specs.declared.span.Span.{Span}
use Rattle.oxc_plan.specs.declared.marks.LabelCells.{LabelCells}
use Rattle.oxc_plan.specs.declared.marks.MarkCells.{MarkCells}
use Rattle.oxc_plan.specs.Groups.{span_at}
use Rattle.oxc_plan.specs.Meets.{one_row_labels}
use Rattle.oxc_plan.specs.Rows.{RowView}
use Rattle.oxc_plan.specs.Columns.{column_at}
use Rattle.oxc_plan.specs.Marks.{cells_of, cells_at, mark_of, mark_start, mark_end, placed_marks, marked_cells, row_cells, AreInOrder, DoNotOverlap, HasEndsByColumns, HasExactMarks}

-- one mark more, and none
pub placed_more : (marks : List MarkCells) (before tab : ℕ) (row : RowView) (spans : List Span) (places : List ℕ) (i d : ℕ) → i < length places
    → (marks ++ mark_of before (cells_of tab row (get_or places i d) (span_at spans (get_or places i d))) ∷ [])
    ++ placed_marks (mark_end before (cells_of tab row (get_or places i d) (span_at spans (get_or places i d)))) (cells_at tab row spans (drop (i + 1) places))
    ≡ marks ++ placed_marks before (cells_at tab row spans (drop i places))
unfolding placed_marks cells_at
placed_more marks before tab row spans places i d lt =
    append_assoc marks _ _
    ∙ ap (λ l. marks ++ l) (sym (at_drop_more (λ rest. placed_marks before (cells_at tab row spans rest)) places i d lt))

pub placed_done : (before tab : ℕ) (row : RowView) (spans : List Span) (places : List ℕ) (i : ℕ) → length places ≤ i → placed_marks before (cells_at tab row spans (drop i places)) ≡ []
unfolding placed_marks cells_at
placed_done before tab row spans places i le = at_drop_all (λ rest. placed_marks before (cells_at tab row spans rest)) places i le

pub mark_end-le : (before bound : ℕ) (c : LabelCells) → before ≤ bound → c.start ≤ bound → c.end ≤ bound → mark_end before c ≤ bound + 1
mark_end-le before bound c from start end = grind arith

-- placed marks go from left to right
pub placed_in_order : (before : ℕ) (cells : List LabelCells) → AreInOrder before (placed_marks before cells)
unfolding placed_marks
placed_in_order before [] = tt
placed_in_order before (c ∷ cells) = (omega arith, omega arith, omega arith, placed_in_order (mark_end before c) cells)

-- cells that do not overlap are marked as they are
exact_mark : (before : ℕ) (c : LabelCells) → before ≤ c.start → c.start < c.end → marked_cells (mark_of before c) ≡ c
exact_mark before c from some =
    let start : mark_start before c ≡ c.start = omega arith in
    let end : mark_end before c ≡ c.end = omega arith in
    ap {A = ℕ} {B = LabelCells} (λ n. record { label = c.label; start = n; end = mark_end before c }) start
    ∙ ap {A = ℕ} {B = LabelCells} (λ n. record { label = c.label; start = c.start; end = n }) end

exact_from : (before : ℕ) (cells : List LabelCells) → All (λ c. before ≤ c.start) cells → All (λ c. c.start < c.end) cells → DoNotOverlap cells
    → map marked_cells (placed_marks before cells) ≡ cells
unfolding placed_marks
exact_from before [] from some apart = refl
exact_from before (c ∷ cells) from some apart =
    let head = All-head (λ x. before ≤ x.start) c cells from in
    let size = All-head (λ x. x.start < x.end) c cells some in
    let end : c.end ≡ mark_end before c = omega arith in
    let later : All (λ x. c.end ≤ x.start) cells = λ i d lt. apart 0 (suc i) d (omega arith) (omega arith) in
    let rest = exact_from c.end cells later (All-tail (λ x. x.start < x.end) c cells some) (λ i j d lt within. apart (suc i) (suc j) d (omega arith) (omega arith)) in
    ap (λ x. x ∷ map marked_cells (placed_marks (mark_end before c) cells)) (exact_mark before c head size)
    ∙ ap (λ l. c ∷ l) (subst (λ n. map marked_cells (placed_marks n cells) ≡ cells) end rest)

some_cells : (tab : ℕ) (row : RowView) (label : ℕ) (span : Span) → (cells_of tab row label span).start < (cells_of tab row label span).end
some_cells tab row label span = grind (arith, nat_tests)

pub marks_are_exact : (tab : ℕ) (row : RowView) (spans : List Span) → HasExactMarks tab row spans
unfolding cells_at
marks_are_exact tab row spans apart =
    exact_from 0 (row_cells tab row spans) (λ i d lt. omega arith)
    (All-map (λ (c : LabelCells). c.start < c.end) (λ at. cells_of tab row at (span_at spans at)) (one_row_labels row.offset row.length spans) (λ i d lt. let at = get_or (one_row_labels row.offset row.length spans) i d in some_cells tab row at (span_at spans at)))
    apart

pub ends_by_columns : (tab : ℕ) (row : RowView) → HasEndsByColumns tab row
ends_by_columns tab row before label span = ends_at before (column_at tab row span.start true) (column_at tab row span.end false) (span.start == span.end)
  where
    ends_at : (before first past : ℕ) (empty : Bool)
        → max (if empty then first + 1 else max past (first + 1)) (max first before + 1) ≡ (if empty then max first before + 1 else max past (max first before + 1))
    ends_at before first past true = omega arith
    ends_at before first past false = omega arith
