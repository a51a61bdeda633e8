-- What lets the labels of a group alone be tried against its rows, and each against the rows that it meets.
use Rattle.std.specs.Prelude.{◌≡◌, ℕ, ◌⊎◌, ◌<◌, ◌≤◌, nat_lt, Bool, List, length, filter, All}
use Rattle.std.specs.List.Sorted.{IsNonDecreasingBy}
use Rattle.std.specs.Str.{IsUtf8}
use Rattle.std.specs.declared.ops.Range.{Range}
use Rattle.oxc_span.specs.declared.span.Span.{Span}
use Rattle.oxc_windows.specs.Breaks.{breaks_of}
use Rattle.oxc_windows.specs.Scan.{Contents, IsMeasured, IsNumbered}
use Rattle.oxc_plan.specs.Groups.{HoldsItsSpans, group_window, span_at}
use Rattle.oxc_plan.specs.Meets.{Meets, label_past, meeting_labels, meets}
use Rattle.oxc_plan.specs.Plan.{Ordered, spans_of}
use Rattle.oxc_plan.specs.Rows.{RowView, rows_in, rows_of}

-- the span at a place goes on past an offset
abbrev pub is_open : List Span → ℕ → ℕ → Bool
is_open spans offset at = nat_lt offset (label_past (span_at spans at))

-- of the spans at these places, those that meet a row are all that meet it, in order
abbrev pub HoldAllMet : RowView → List Span → List ℕ → Type 0
HoldAllMet row spans places =
    filter (λ at. meets row.offset row.length (span_at spans at)) places ≡ meeting_labels row.offset row.length spans

-- no span outside a group meets one of these rows
abbrev pub MeetNoOthers : List Span → Range ℕ → List RowView → Type 0
MeetNoOthers spans group rows =
    (at : ℕ) → at < length spans → (at < group.start) ⊎ (group.end ≤ at) → All (λ row. ¬ Meets row.offset row.length (span_at spans at)) rows

-- the rows of a group can be planned from what was read of it: that is a text, the spans are those of labels in label order,
-- and none outside the group meets one of the rows
pub record CanSweep (contents : Contents) (labels : List Ordered) (spans : List Span) (group : Range ℕ) : Type 0 where
  pub text : IsUtf8 contents.bytes
  pub measured : IsMeasured contents
  pub numbered : IsNumbered contents
  pub spans_are : spans ≡ spans_of labels
  pub rising : IsNonDecreasingBy (λ span. span.start) spans
  pub ordered : All (λ span. span.start ≤ span.end) spans
  pub some : group.start < group.end
  pub within : group.end ≤ length spans
  pub alone : MeetNoOthers spans group (rows_of contents)

-- a group of spans has spans, they lie in its window, and no other span meets a row of it
pub record IsGroupAlone (source : List ℕ) (spans : List Span) (group : Range ℕ) : Type 0 where
  pub some : group.start < group.end
  pub within : group.end ≤ length spans
  pub held : HoldsItsSpans (length source) (breaks_of source) spans group
  pub alone : MeetNoOthers spans group (rows_in source (group_window (length source) (breaks_of source) spans group))
