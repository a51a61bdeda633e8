-- What a read of an index promises: the window, what the index keeps, and what it costs. The source is seen by its length and breaks.
use Rattle.std.specs.Prelude.{◌≡◌, ℕ, ◌+◌, ◌*◌, ◌<◌, ◌≤◌, ◌↔◌, List, Option, Some, None, Result, Ok, IfOk, IfSome, IsNone, IsSome, OnOk, OnErr}
use Rattle.std.specs.declared.alloc.AllocError.{AllocError}
use Rattle.oxc_span.specs.declared.span.Span.{Span}
use Rattle.oxc_windows.specs.declared.breaks.LineBreak.{LineBreak}
use Rattle.oxc_windows.specs.declared.index.WindowIndex.{WindowIndex}
use Rattle.oxc_windows.specs.declared.window.Window.{Window}
use Rattle.oxc_windows.specs.Index.{index_view}
use Rattle.oxc_windows.specs.Kept.{AllStay, AreKept, AreKeptUpTo, first_after}
use Rattle.oxc_windows.specs.Window.{first_row, window_of}

-- the window by its definition, over the source's length and breaks alone; a span that ends past the source has none
pub record ReadsWindow (len : ℕ) (breaks : List LineBreak) (old new : WindowIndex) (span : Span) (result : Result (Option Window) AllocError) : Type 0 where
  pub before : (index_view new).before ≡ (index_view old).before
  pub after : (index_view new).after ≡ (index_view old).after
  pub value : IfOk result (λ w. w ≡ window_of len breaks (index_view old).before (index_view old).after span.start span.end)
  pub none : IfOk result (λ w. IsNone w ↔ (len < span.end))
  pub refused : len < span.end → result ≡ Ok None
  pub still : len < span.end → new ≡ old

-- the first span that has a window is noted, the row starts kept are true, none is lost, and they reach up to the window's end
pub record KeepsRows (len : ℕ) (breaks : List LineBreak) (old new : WindowIndex) (span : Span) (result : Result (Option Window) AllocError) : Type 0 where
  pub first : OnOk result ((index_view new).first ≡ first_after len (index_view old).first span.start span.end)
  pub first_stays : OnErr result ((index_view new).first ≡ (index_view old).first)
  pub true_rows : AreKept len breaks (index_view old).before (index_view new).first (index_view new).kept
  pub stay : AllStay (index_view old).kept (index_view new).kept
  pub held : (first : ℕ) → (index_view new).first ≡ Some first → first ≤ span.start
      → IfOk result (λ found. IfSome found (λ w. AreKeptUpTo len breaks (first_row breaks (index_view old).before first) (index_view new).kept w.end))

-- how many bytes a read looks at, by the count before and after
pub record TicksForWindow (len : ℕ) (old new : WindowIndex) (span : Span) (result : Result (Option Window) AllocError) (before after : ℕ) : Type 0 where
  pub free : len < span.end → after ≡ before
  pub first : span.end ≤ len → (index_view old).first ≡ None → OnOk result (after + (index_view new).left ≤ before + len + span.start + 2)
  pub later : (first : ℕ) → (index_view old).first ≡ Some first → first ≤ span.start
      → OnOk result (after + (index_view new).left ≤ before + (index_view old).left)
  pub above : (first : ℕ) → (index_view old).first ≡ Some first → span.start < first
      → IfOk result (λ found. IfSome found (λ w. after ≤ before + 2 * w.end + 2))
  pub left : IsSome (index_view old).first → (index_view new).left ≤ (index_view old).left
