-- The windows of many spans, and the steps that they take.
use Rattle.std.specs.Prelude.{◌≡◌, ℕ, ◌+◌, ◌≤◌, List, Option, Some, None, map, fold}
use Rattle.oxc_span.specs.declared.span.Span.{Span}
use Rattle.oxc_windows.specs.declared.breaks.LineBreak.{LineBreak}
use Rattle.oxc_windows.specs.declared.window.Window.{Window}
use Rattle.oxc_windows.specs.Window.{window_of}
use Rattle.oxc_windows.specs.Kept.{first_after}

-- the windows of all spans
abbrev pub windows_of : ℕ → List LineBreak → ℕ → ℕ → List Span → List (Option Window)
windows_of len breaks before after spans = map (λ span. window_of len breaks before after span.start span.end) spans

-- the start of the first span that had a window, after more reads
unfoldable pub first_from : ℕ → Option ℕ → List Span → Option ℕ
first_from len first spans = fold (λ now span. first_after len now span.start span.end) first spans

-- the start of the first of the spans that has a window
abbrev pub first_of : ℕ → List Span → Option ℕ
first_of len spans = first_from len None spans

-- a span starts at the first start or later, if it has a window
abbrev pub IsNotBefore : ℕ → Option ℕ → Span → Type 0
IsNotBefore len None span = Unit {0}
IsNotBefore len (Some first) span = span.end ≤ len → first ≤ span.start

-- what was ticked since the counter stood at `base`, and what is left
abbrev pub IsSpent : ℕ → ℕ → Option ℕ → ℕ → ℕ → Type 0
IsSpent len base None left steps = steps ≡ base
IsSpent len base (Some first) left steps = steps + left ≤ base + len + first + 2

-- all reads together look at no more than the bytes of the source, those before the first span once more, and two;
-- where no span had a window they look at none
abbrev pub TicksAtMost : ℕ → ℕ → Option ℕ → ℕ → Type 0
TicksAtMost len base None steps = steps ≡ base
TicksAtMost len base (Some first) steps = steps ≤ base + len + first + 2
