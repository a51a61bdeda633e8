-- What the plan of a report's snippets promises of its labels, their texts and the rows that they meet.
use Rattle.std.specs.Prelude.{◌≡◌, ℕ, ◌+◌, ◌-◌, ◌<◌, ◌≤◌, ◌==◌, List, length, count_by, slice_index, slice_range, All}
use Rattle.std.specs.List.{Contains, flat_map, sum_by}
use Rattle.std.specs.Option.{IsSome}
use Rattle.oxc_span.specs.declared.span.Span.{Span}
use Rattle.oxc_span.specs.Label.{Label, label_end}
use Rattle.oxc_plan.specs.Meets.{Meets}
use Rattle.oxc_plan.specs.Order.{label_at, label_order}
use Rattle.oxc_plan.specs.Rows.{RowView, row_text}
use Rattle.oxc_windows.specs.Breaks.{breaks_of}
use Rattle.oxc_windows.specs.Rows.{row_start}
use Rattle.oxc_plan.specs.Plan.{RowPlanView, SnippetView, in_order, ordered_at, ordered_label, snippets_of}

-- a label, by its place as given, stands at exactly one place of the label order, and is among the labels in that order
pub record IsInOrder (labels : List Label) (at : ℕ) : Type 0 where
  pub once : count_by (λ given. given == at) (label_order labels) ≡ 1
  pub stands : Contains (in_order labels) (ordered_label (label_at labels at))

-- the law: each given label is in the label order
abbrev pub AreAllInOrder : List Label → Type 0
AreAllInOrder labels = (at : ℕ) → at < length labels → IsInOrder labels at

-- all rows of snippets, from the first to the last
abbrev pub drawn_rows : List SnippetView → List RowPlanView
drawn_rows plans = flat_map (λ plan. plan.rows) plans

-- how often the text of a label stands below a row, hanging or at the end of a bar
abbrev pub texts_below : ℕ → RowPlanView → ℕ
texts_below at plan = count_by (λ hang. hang.label == at) plan.hangs + count_by (λ end. end == at) plan.ends

-- a row is the last of these rows that a label meets
abbrev pub IsLastMet : List RowPlanView → Span → RowPlanView → Type 0
IsLastMet rows span plan =
    Meets plan.row.offset plan.row.length span
    × All (λ other. plan.row.offset < other.row.offset → ¬ Meets other.row.offset other.row.length span) rows

-- an empty label at the source's end
abbrev pub IsAtEnd : ℕ → Span → Type 0
IsAtEnd len span = len ≤ span.start

-- the text of a label stands once below these rows, and under the last of them that the label meets; only that of an
-- empty label at the source's end stands nowhere
pub record HangsOnce (len : ℕ) (rows : List RowPlanView) (span : Span) (at : ℕ) : Type 0 where
  pub once : ¬ IsAtEnd len span → sum_by (texts_below at) rows ≡ 1
  pub nowhere : IsAtEnd len span → sum_by (texts_below at) rows ≡ 0
  pub last : All (λ plan. 0 < texts_below at plan → IsLastMet rows span plan) rows

-- the law: each text of a label that ends within the source hangs once
abbrev pub HaveTextsOnce : ℕ → List ℕ → List Label → Type 0
HaveTextsOnce tab source labels =
    All (λ label. label_end label ≤ length source) labels
    → (at : ℕ) → at < length (in_order labels) → IsSome (ordered_at (in_order labels) at).text
    → HangsOnce (length source) (drawn_rows (snippets_of tab source labels)) (ordered_at (in_order labels) at).span at

-- CR stands only before LF
abbrev pub HasPairedCrs : List ℕ → Type 0
HasPairedCrs source = (at : ℕ) → slice_index source at ≡ 13 → slice_index source (at + 1) ≡ 10

-- a row of the source, counted from 0 under all breaks: its number from 1, its offset, its bytes and its text
abbrev pub source_row : List ℕ → ℕ → RowView
source_row source r =
    let begin = row_start (length source) (breaks_of source) r in
    let end = row_start (length source) (breaks_of source) (r + 1) in
    record { number = r + 1; offset = begin; length = end - begin; text = row_text (slice_range source begin end) }

-- a row of the source stands once among rows, as it is
pub record StandsOnce (rows : List RowPlanView) (row : RowView) : Type 0 where
  pub once : count_by (λ plan. plan.row.offset == row.offset) rows ≡ 1
  pub same : All (λ plan. plan.row.offset ≡ row.offset → plan.row ≡ row) rows

-- the law: where CR stands only before LF, every row of the source that a label meets is drawn exactly once, truly numbered
abbrev pub HaveRowsOnce : ℕ → List ℕ → List Label → Type 0
HaveRowsOnce tab source labels =
    All (λ label. label_end label ≤ length source) labels → HasPairedCrs source
    → (at r : ℕ) → at < length (in_order labels)
    → Meets (source_row source r).offset (source_row source r).length (ordered_at (in_order labels) at).span
    → StandsOnce (drawn_rows (snippets_of tab source labels)) (source_row source r)
