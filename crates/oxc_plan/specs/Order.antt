-- The label order: by start, equal starts as given.
use Rattle.std.specs.Prelude.{◌≡◌, ℕ, ◌≤◌, ◌==◌, nat_lt, List, [], ◌∷◌, length, map, filter, None, false, slice_index_or, if◌then◌else◌, All}
use Rattle.std.specs.List.{range_with_len}
use Rattle.std.specs.List.Sorted.{IsNonDecreasingBy}
use Rattle.oxc_span.specs.declared.span.Span.{Span}
use Rattle.oxc_span.specs.Label.{Label, label_end}

-- an empty label without a text, at 0: what stands for a label past the end of a list
abbrev pub no_label : Label
no_label = record { text = None; offset = 0; len = 0; primary = false }

-- the label at a place of a list, and where it starts
abbrev pub label_at : List Label → ℕ → Label
label_at labels at = slice_index_or labels at no_label

abbrev pub start_at : List Label → ℕ → ℕ
start_at labels at = (label_at labels at).offset

-- the places of labels, as given
abbrev pub places : List Label → List ℕ
places labels = range_with_len 0 (length labels)

-- the labels that start there, of a list of places
abbrev pub starting_at : List Label → ℕ → List ℕ → List ℕ
starting_at labels start = filter (λ at. start_at labels at == start)

-- places of labels in label order: starts ascend, and all labels that start where a label does stand as given
pub record IsLabelOrder (labels : List Label) (order : List ℕ) : Type 0 where
  pub ascending : IsNonDecreasingBy (start_at labels) order
  pub as_given : (at : ℕ) → starting_at labels (start_at labels at) order ≡ starting_at labels (start_at labels at) (places labels)

-- a label among labels in order that are given after it: before the first that starts no earlier
unfoldable pub inserted : List Label → ℕ → List ℕ → List ℕ
inserted labels at [] = at ∷ []
inserted labels at (next ∷ more) = if nat_lt (start_at labels next) (start_at labels at) then next ∷ inserted labels at more else at ∷ next ∷ more

unfoldable pub ordered : List Label → List ℕ → List ℕ
ordered labels [] = []
ordered labels (at ∷ more) = inserted labels at (ordered labels more)

-- the one label order
unfoldable pub label_order : List Label → List ℕ
label_order labels = ordered labels (places labels)

-- the span of a label, and the spans of labels in label order
abbrev pub span_of : Label → Span
span_of label = record { start = label.offset; end = label_end label }

unfoldable pub spans_in_order : List Label → List Span
spans_in_order labels = map (λ at. span_of (label_at labels at)) (label_order labels)

-- the law: labels have no two label orders
abbrev pub HasOneOrder : List Label → Type 0
HasOneOrder labels = (xs ys : List ℕ) → IsLabelOrder labels xs → IsLabelOrder labels ys → xs ≡ ys

-- spans that don't end before they start, nor past a length
abbrev pub LieWithin : ℕ → List Span → Type 0
LieWithin len spans = All (λ span. (span.start ≤ span.end) × (span.end ≤ len)) spans

-- spans whose starts ascend, none of which ends before it starts or past a length
pub record AreOrderedSpans (len : ℕ) (spans : List Span) : Type 0 where
  pub ascend : IsNonDecreasingBy (λ span. span.start) spans
  pub within : LieWithin len spans
