-- Which labels meet a row. A row is given by its offset and its length, its break with it; a label by its span. Both
-- count the bytes of the source. An empty label counts as the one byte at its place.
use Rattle.std.specs.Prelude.{ℕ, ◌+◌, ◌-◌, ◌<◌, ◌≤◌, nat_lt, nat_le, ◌&&◌, not, Bool, List, length, max, min, filter}
use Rattle.std.specs.List.{range_with_len}
use Rattle.oxc_span.specs.declared.span.Span.{Span}
use Rattle.oxc_plan.specs.Groups.{span_at}

-- one past the last byte that counts as the label's
abbrev pub label_past : Span → ℕ
label_past span = span.start + max (span.end - span.start) 1

-- a label meets a row: they have a byte in common
abbrev pub Meets : ℕ → ℕ → Span → Type 0
Meets offset length span = (at : ℕ) × (offset ≤ at) × (at < offset + length) × (span.start ≤ at) × (at < label_past span)

-- it also starts and ends within the row; its end may be the row's end
abbrev pub IsOneRow : ℕ → ℕ → Span → Type 0
IsOneRow offset length span = Meets offset length span × (offset ≤ span.start) × (span.end ≤ offset + length)

-- it meets the row and others
abbrev pub IsMultiRow : ℕ → ℕ → Span → Type 0
IsMultiRow offset length span = Meets offset length span × ¬ (IsOneRow offset length span)

-- the tests of the three: the later start comes before the earlier end
abbrev pub meets : ℕ → ℕ → Span → Bool
meets offset length span = nat_lt (max offset span.start) (min (offset + length) (label_past span))

abbrev pub is_within : ℕ → ℕ → Span → Bool
is_within offset length span = nat_le offset span.start && nat_le span.end (offset + length)

abbrev pub is_one_row : ℕ → ℕ → Span → Bool
is_one_row offset length span = meets offset length span && is_within offset length span

abbrev pub is_multi_row : ℕ → ℕ → Span → Bool
is_multi_row offset length span = meets offset length span && not (is_within offset length span)

-- the places of the labels that meet a row, among spans in label order
unfoldable pub meeting_labels : ℕ → ℕ → List Span → List ℕ
meeting_labels offset len spans = filter (λ at. meets offset len (span_at spans at)) (range_with_len 0 (length spans))

-- the places of a row's one-row labels, and of its multi-row ones, among spans in label order
unfoldable pub one_row_labels : ℕ → ℕ → List Span → List ℕ
one_row_labels offset len spans = filter (λ at. is_one_row offset len (span_at spans at)) (range_with_len 0 (length spans))

unfoldable pub multi_row_labels : ℕ → ℕ → List Span → List ℕ
multi_row_labels offset len spans = filter (λ at. is_multi_row offset len (span_at spans at)) (range_with_len 0 (length spans))
