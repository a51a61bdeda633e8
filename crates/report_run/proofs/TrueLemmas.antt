-- A report that isn't refused is drawn true to its source.
use Rattle.std.proofs.Common.{◌≡◌, ℕ, List, [], ◌∷◌, map, All, None, slice_index_or, refl}
use Rattle.std.proofs.lemmas.List.Elements.{All-append, All-cons, All-map, All-nil}
use Rattle.std.specs.List.{flat_map}
use Rattle.codespan.specs.Texts.{NamedText, text_of}
use Rattle.oxc_span.specs.Label.{Label}
use Rattle.oxc_plan.specs.Laws.{drawn_rows}
use Rattle.oxc_plan.specs.Marks.{DoNotOverlap, marked_cells, row_cells}
use Rattle.oxc_plan.specs.Plan.{Ordered, RowPlanView, SnippetView, in_order, row_plan_of, row_plans_of, snippet_of, snippets_of, spans_of}
use Rattle.oxc_plan.specs.Groups.{groups_in}
use Rattle.oxc_plan.specs.Rows.{RowView}
use Rattle.oxc_plan.proofs.MarksLemmas.{marks_are_exact}
use Rattle.oxc_plan.proofs.TextsLemmas.{rows_once}
use Rattle.oxc_handlers.specs.Report.{plan_of, snippets_in}
use Rattle.render_files.specs.Given.{GivenReport}
use Rattle.render_files.specs.Refusal.{refusal_of}
use Rattle.render_files.specs.Shown.{placed_labels, view_of}
use Rattle.render_files.proofs.Standing.{all_stand}
use Rattle.report_run.specs.Run.{IsTrueToSource}

-- ---- the marks of drawn rows

all_each : {X : Type 0} (P : X → Type 0) → ((x : X) → P x) → (xs : List X) → All P xs
all_each P each [] = All-nil P
all_each P each (x ∷ xs) = All-cons P x xs (each x) (all_each P each xs)

all_rows : {X : Type 0} (P : RowPlanView → Type 0) (snippet : X → SnippetView) → ((x : X) → All P (snippet x).rows) → (xs : List X) → All P (drawn_rows (map snippet xs))
all_rows P snippet each [] = All-nil P
all_rows P snippet each (x ∷ xs) = All-append P (snippet x).rows (drawn_rows (map snippet xs)) (each x) (all_rows P snippet each xs)

-- where the labels of a row don't overlap, its marks are their cells
abbrev IsExact : ℕ → List Ordered → RowPlanView → Type 0
IsExact tab labels plan = DoNotOverlap (row_cells tab plan.row (spans_of labels)) → map marked_cells plan.marks ≡ row_cells tab plan.row (spans_of labels)

row_exact : (tab : ℕ) (labels : List Ordered) (row : RowView) → IsExact tab labels (row_plan_of tab labels row)
unfolding row_plan_of
row_exact tab labels row = marks_are_exact tab row (spans_of labels)

rows_exact : (tab : ℕ) (labels : List Ordered) (rows : List RowView) → All (IsExact tab labels) (map (row_plan_of tab labels) rows)
rows_exact tab labels rows = All-map (IsExact tab labels) (row_plan_of tab labels) rows (all_each (λ row. IsExact tab labels (row_plan_of tab labels row)) (row_exact tab labels) rows)

marks_exact : (tab : ℕ) (source : List ℕ) (labels : List Label) → All (IsExact tab (in_order labels)) (drawn_rows (snippets_of tab source labels))
unfolding snippets_of snippet_of row_plans_of
marks_exact tab source labels =
    all_rows (IsExact tab (in_order labels)) (snippet_of tab source (in_order labels)) (λ group. rows_exact tab (in_order labels) _) (groups_in source labels)

-- ---- the plan that is drawn

plan_is : (tab : ℕ) (files : List NamedText) (it : GivenReport) → (plan_of tab (view_of files it)).snippets ≡ snippets_of tab (text_of files it.file) (placed_labels files it)
unfolding plan_of snippets_in
plan_is tab files it = refl

-- ---- all reports

pub true_to_source : (tab : ℕ) (files : List NamedText) (reports : List GivenReport) → refusal_of files reports ≡ None → All (IsTrueToSource tab files) reports
true_to_source tab files reports accepted at other within =
    let it = slice_index_or reports at other in
    record {
      stands = all_stand files reports accepted at other within;
      plan = plan_is tab files it;
      rows = rows_once tab (text_of files it.file) (placed_labels files it);
      marks = marks_exact tab (text_of files it.file) (placed_labels files it);
    }
