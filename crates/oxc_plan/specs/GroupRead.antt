-- What is read of a group of spans, which stand in label order.
use Rattle.std.specs.Prelude.{◌≡◌, ℕ, ◌≤◌, List, length}
use Rattle.std.specs.Str.{IsUtf8}
use Rattle.oxc_span.specs.declared.span.Span.{Span}
use Rattle.oxc_windows.specs.Breaks.{breaks_of}
use Rattle.oxc_windows.specs.Scan.{IsMeasured, IsNumbered, contents_of}
use Rattle.oxc_plan.specs.declared.grouping.GroupRead.{GroupRead}
use Rattle.oxc_plan.specs.Groups.{IsGroup, largest_end, span_at, window_round}

-- spans from one place to before another, what they span together, and the contents of the window round that
pub record IsReadTogether (source : List ℕ) (spans : List Span) (group : GroupRead) : Type 0 where
  pub start : group.span.start ≡ (span_at spans group.places.start).start
  pub end : group.span.end ≡ largest_end spans group.places.start group.places.end
  pub ordered : group.span.start ≤ group.span.end
  pub inside : group.span.end ≤ length source
  pub contents : group.contents ≡ contents_of source (window_round source group.span)
  pub text : IsUtf8 source → IsUtf8 group.contents.bytes
  pub measured : IsMeasured group.contents
  pub numbered : IsNumbered group.contents

-- what is read of the group that begins with the span at a place
pub record IsGroupFrom (source : List ℕ) (spans : List Span) (first : ℕ) (group : GroupRead) : Type 0 where
  pub from : group.places.start ≡ first
  pub is : IsGroup (length source) (breaks_of source) spans group.places.start group.places.end
  pub read : IsReadTogether source spans group
