-- The spans that share a snippet, from the length of a source and its breaks alone. Spans stand in label order.
use Rattle.std.specs.Prelude.{◌≡◌, ℕ, zero, suc, ◌+◌, ◌-◌, ◌<◌, ◌≤◌, nat_lt, List, [], ◌∷◌, length, max, fold, slice_index_or, slice_range, if◌then◌else◌, All, AllPairs}
use Rattle.std.specs.List.{position_or_len, range_with_len}
use Rattle.std.specs.declared.ops.Range.{Range}
use Rattle.oxc_span.specs.declared.span.Span.{Span}
use Rattle.oxc_span.specs.Label.{Label}
use Rattle.oxc_windows.specs.Breaks.{breaks_of}
use Rattle.oxc_windows.specs.declared.breaks.LineBreak.{LineBreak}
use Rattle.oxc_windows.specs.declared.window.Window.{Window}
use Rattle.oxc_windows.specs.Window.{window_at}
use Rattle.oxc_plan.specs.Order.{spans_in_order}

-- the span at a place; past the last an empty one at 0
abbrev pub span_at : List Span → ℕ → Span
span_at spans at = slice_index_or spans at (record { start = 0; end = 0 })

-- the largest end of the spans from one place to before another
unfoldable pub largest_end : List Span → ℕ → ℕ → ℕ
largest_end spans first past = fold (λ most s. max most s.end) 0 (slice_range spans first past)

-- the window of a span, with one row of context before and after
abbrev pub span_window : ℕ → List LineBreak → List Span → ℕ → Window
span_window len breaks spans at = window_at len breaks 1 1 (span_at spans at).start (span_at spans at).end

-- the window of the spans from one place to before another: from the first start to the largest end
abbrev pub joint_window : ℕ → List LineBreak → List Span → ℕ → ℕ → Window
joint_window len breaks spans first past = window_at len breaks 1 1 (span_at spans first).start (largest_end spans first past)

-- how far their window reaches for the next one: its first row and its line count together
abbrev pub reach : ℕ → List LineBreak → List Span → ℕ → ℕ → ℕ
reach len breaks spans first past = (joint_window len breaks spans first past).line + (joint_window len breaks spans first past).line_count

-- the spans from one place to before another share a snippet: the window of each later one begins within reach of
-- those before it, and that of the next one does not
pub record IsGroup (len : ℕ) (breaks : List LineBreak) (spans : List Span) (first past : ℕ) : Type 0 where
  pub some : first < past
  pub within : past ≤ length spans
  pub joined : (at : ℕ) → first < at → at < past → (span_window len breaks spans at).line ≤ reach len breaks spans first at
  pub full : past < length spans → reach len breaks spans first past < (span_window len breaks spans past).line

-- the groups of the spans from a place on: the first begins there, each other where the one before ends, and the last
-- ends with the spans
abbrev pub AreGroups : ℕ → List LineBreak → List Span → ℕ → List (Range ℕ) → Type 0
AreGroups len breaks spans from [] = from ≡ length spans
AreGroups len breaks spans from (group ∷ groups) =
    (group.start ≡ from) × IsGroup len breaks spans group.start group.end × AreGroups len breaks spans group.end groups

-- the law: spans have no two divisions into groups
abbrev pub HasOneGrouping : ℕ → List LineBreak → List Span → Type 0
HasOneGrouping len breaks spans = (xs ys : List (Range ℕ)) → AreGroups len breaks spans 0 xs → AreGroups len breaks spans 0 ys → xs ≡ ys

-- where the group that begins with the span at a place ends: before the first later span whose window begins out of
-- reach of those before it, or with the spans
unfoldable pub group_end : ℕ → List LineBreak → List Span → ℕ → ℕ
group_end len breaks spans first =
    first + 1 + position_or_len (λ at. nat_lt (reach len breaks spans first at) (span_window len breaks spans at).line) (range_with_len (first + 1) (length spans - (first + 1)))

-- the groups of the spans from a place on, of which there are no more than `most`
unfoldable pub groups_from : ℕ → List LineBreak → List Span → ℕ → ℕ → List (Range ℕ)
groups_from len breaks spans from zero = []
groups_from len breaks spans from (suc most) =
    let past = group_end len breaks spans from in
    if nat_lt from (length spans) then record { start = from; end = past } ∷ groups_from len breaks spans past most else []

-- the one division of the spans into groups
unfoldable pub groups_of : ℕ → List LineBreak → List Span → List (Range ℕ)
groups_of len breaks spans = groups_from len breaks spans 0 (length spans)

-- the window of a group
abbrev pub group_window : ℕ → List LineBreak → List Span → Range ℕ → Window
group_window len breaks spans group = joint_window len breaks spans group.start group.end

-- the windows of groups ascend and share no byte
abbrev pub AreApart : ℕ → List LineBreak → List Span → List (Range ℕ) → Type 0
AreApart len breaks spans groups =
    AllPairs (λ a b. (group_window len breaks spans a).end ≤ (group_window len breaks spans b).begin) groups

-- each span of a group lies in the group's window
abbrev pub HoldsItsSpans : ℕ → List LineBreak → List Span → Range ℕ → Type 0
HoldsItsSpans len breaks spans group =
    (at : ℕ) → group.start ≤ at → at < group.end
    → ((group_window len breaks spans group).begin ≤ (span_at spans at).start) × ((span_at spans at).end ≤ (group_window len breaks spans group).end)

-- the same over the bytes of a source and its labels, in any order: the groups of the labels in label order
abbrev pub AreGroupsIn : List ℕ → List Label → List (Range ℕ) → Type 0
AreGroupsIn source labels = AreGroups (length source) (breaks_of source) (spans_in_order labels) 0

abbrev pub groups_in : List ℕ → List Label → List (Range ℕ)
groups_in source labels = groups_of (length source) (breaks_of source) (spans_in_order labels)

abbrev pub AreApartIn : List ℕ → List Label → List (Range ℕ) → Type 0
AreApartIn source labels = AreApart (length source) (breaks_of source) (spans_in_order labels)

abbrev pub HoldTheirLabels : List ℕ → List Label → List (Range ℕ) → Type 0
HoldTheirLabels source labels = All (HoldsItsSpans (length source) (breaks_of source) (spans_in_order labels))

-- the window of a span of a source, with one row of context before and after
abbrev pub window_round : List ℕ → Span → Window
window_round source span = window_at (length source) (breaks_of source) 1 1 span.start span.end
